use Rattle.lp_spec_cells.proofs.LooksAtPins.{shifter-looks}
use Rattle.lp_spec_cells.proofs.laws.shifter_looks_at_its_pins.Goals as goal

pub returns : goal.returns
returns c = shifter-looks
