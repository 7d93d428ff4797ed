use Rattle.lp_spec_hub.proofs.Hub.{near}
use Rattle.lp_spec_hub.proofs.laws.operators_stand_near_their_bits.Goals as goal

pub returns : goal.returns
returns c = near
