use Rattle.lp_spec_bridge.proofs.Ways.{keys_apart}
use Rattle.lp_spec_bridge.proofs.laws.keys_stand_once.Goals as goal

pub returns : goal.returns
returns c = keys_apart
