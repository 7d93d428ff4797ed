use Rattle.lp_spec_proper.proofs.FreePins.{cells-free}
use Rattle.lp_spec_proper.proofs.laws.cells_have_free_pins.Goals as goal

pub returns : goal.returns
returns c = cells-free
