use Rattle.lp_spec_insertion.proofs.Reading.{all_read}
use Rattle.lp_spec_insertion.proofs.laws.inputs_are_read.Goals as goal

pub returns : goal.returns
returns c = all_read c.usable_cells_are_sound.ensures.sound c.read_is_sound.ensures
