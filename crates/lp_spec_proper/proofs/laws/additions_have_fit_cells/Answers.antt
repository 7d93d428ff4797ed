use Rattle.lp_spec_proper.proofs.FitCells.{has-fit-cells}
use Rattle.lp_spec_proper.proofs.laws.additions_have_fit_cells.Goals as goal

pub returns : goal.returns
returns c = has-fit-cells
