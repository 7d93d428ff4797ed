use Rattle.lp_spec_proper.proofs.Owed.{pins-apart}
use Rattle.lp_spec_proper.proofs.laws.added_cells_have_pins_apart.Goals as goal

pub returns : goal.returns
returns c = pins-apart
