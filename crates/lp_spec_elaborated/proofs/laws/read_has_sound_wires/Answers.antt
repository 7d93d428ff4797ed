use Rattle.lp_spec_elaborated.proofs.Readers.{has-sound-wires}
use Rattle.lp_spec_elaborated.proofs.laws.read_has_sound_wires.Goals as goal

pub returns : goal.returns
returns c = has-sound-wires
