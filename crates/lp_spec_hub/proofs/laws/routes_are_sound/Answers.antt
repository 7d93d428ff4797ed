use Rattle.lp_spec_hub.proofs.Hub.{sound}
use Rattle.lp_spec_hub.proofs.laws.routes_are_sound.Goals as goal

pub returns : goal.returns
returns c = sound
