use Rattle.lp_spec_shared.proofs.Written.{shared-cells}
use Rattle.lp_spec_shared.proofs.laws.shared_has_all_its_cells.Goals as goal

pub returns : goal.returns
returns c = shared-cells
