use Rattle.lp_spec_hub.proofs.Hub.{stay}
use Rattle.lp_spec_hub.proofs.laws.parts_stay_as_they_are.Goals as goal

pub returns : goal.returns
returns c = stay
