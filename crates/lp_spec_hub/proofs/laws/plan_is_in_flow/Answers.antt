use Rattle.lp_spec_hub.proofs.Hub.{flows}
use Rattle.lp_spec_hub.proofs.laws.plan_is_in_flow.Goals as goal

pub returns : goal.returns
returns c = flows
