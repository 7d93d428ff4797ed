use Rattle.lp_spec_hub.proofs.Hub.{apart}
use Rattle.lp_spec_hub.proofs.laws.ways_stand_apart.Goals as goal

pub returns : goal.returns
returns c = apart
