use Rattle.lp_spec_written_at.proofs.Placed.{operator-placed}
use Rattle.lp_spec_written_at.proofs.laws.operators_are_placed.Goals as goal

pub returns : goal.returns
returns c = operator-placed
