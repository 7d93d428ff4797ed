use Rattle.lp_spec_hub.proofs.Hub.{cells}
use Rattle.lp_spec_hub.proofs.laws.operators_have_their_cells.Goals as goal

pub returns : goal.returns
returns c = cells
