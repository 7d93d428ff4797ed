use Rattle.lp_spec_hub.proofs.laws.operators_take_their_data.Goals as goal
use Rattle.lp_spec_hub.proofs.Hub.{reading}

pub returns : goal.returns
returns c = reading
