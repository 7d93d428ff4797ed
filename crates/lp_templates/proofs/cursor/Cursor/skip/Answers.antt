use Rattle.lp_templates.specs.Pieces.{places_in}
use Rattle.lp_templates.proofs.Joined.{skipped}
use Rattle.lp_templates.proofs.cursor.Cursor.skip.Goals as goal

pub returns : goal.returns
returns c =
    skipped c.args.self.now.piece.from c.shortened-self.result.from c.args.self.now.piece.count c.args.steps c.shortened-self.result.count (places_in c.args.self.now.later.now) c.shortened-self.ensures.count c.shortened-self.ensures.from
