use Rattle.lp_spec_written_at.proofs.Operators.{operator-cells}
use Rattle.lp_spec_written_at.proofs.laws.content_has_the_cells_of_operators.Goals as goal

pub returns : goal.returns
returns c = operator-cells
