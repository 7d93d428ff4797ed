use Rattle.lp_spec_read.proofs.Cells.{sound_pins}
use Rattle.lp_spec_read.proofs.laws.read_cells_have_sound_pins.Goals as goal

pub returns : goal.returns
returns c = sound_pins
