use Rattle.std.specs.Prelude.{codes}
use Rattle.lp_top.proofs.RunningLaws.{says-part}
use Rattle.lp_top.proofs.running.give_up.Goals as goal

pub returns-clause-said : goal.returns-clause-said
returns-clause-said g c = says-part c.say.result (codes "lpinsert: no memory\n") (g.S.Shelf.said c.args.shelf.now) (g.S.Shelf.said c.say.new.self) c.say.ensures.contents
