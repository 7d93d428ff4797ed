use Rattle.lp_spec_cells.proofs.Operators.{shifter-up}
use Rattle.lp_spec_cells.proofs.laws.shifter_is_up.Goals as goal

pub returns : goal.returns
returns c = shifter-up
