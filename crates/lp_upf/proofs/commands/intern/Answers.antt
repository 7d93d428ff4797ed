use Rattle.lp_text.specs.Texts.{place_of-Some}
use Rattle.lp_upf.proofs.commands.intern.Goals as goal

pub returns-in-Ok-clause-below : goal.returns-in-Ok-clause-below
returns-in-Ok-clause-below c = (place_of-Some c.args.name.now c.intern.new.self c.in-Ok.id.0 c.in-Ok.ensures.number).0

pub returns-in-Ok-clause-text : goal.returns-in-Ok-clause-text
returns-in-Ok-clause-text c = (place_of-Some c.args.name.now c.intern.new.self c.in-Ok.id.0 c.in-Ok.ensures.number).1
