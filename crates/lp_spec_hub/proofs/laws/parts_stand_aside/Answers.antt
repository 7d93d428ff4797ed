use Rattle.lp_spec_hub.proofs.Hub.{aside}
use Rattle.lp_spec_hub.proofs.laws.parts_stand_aside.Goals as goal

pub returns : goal.returns
returns c = aside
