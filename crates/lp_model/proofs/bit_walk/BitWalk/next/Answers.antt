use Rattle.std.proofs.Common.{sym, ◌∙◌}
use Rattle.lp_model.proofs.Runs.{walk-here}
use Rattle.lp_model.proofs.bit_walk.BitWalk.next.Goals as goal

pub returns-then-self-width : goal.returns-then-self-width
returns-then-self-width c = sym c.self.view_is ∙ walk-here c.self.inside.run c.self.inside.done c.self.inside.later.now c.bit-bit.result c.bit-bit.ensures
