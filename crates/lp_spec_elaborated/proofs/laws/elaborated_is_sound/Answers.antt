use Rattle.lp_spec_elaborated.proofs.Sound.{sound-net}
use Rattle.lp_spec_elaborated.proofs.laws.elaborated_is_sound.Goals as goal

pub returns : goal.returns
returns c = sound-net
