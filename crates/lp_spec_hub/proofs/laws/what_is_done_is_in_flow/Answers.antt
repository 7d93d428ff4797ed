use Rattle.lp_spec_hub.proofs.Hub.{still_flows}
use Rattle.lp_spec_hub.proofs.laws.what_is_done_is_in_flow.Goals as goal

pub returns : goal.returns
returns c = still_flows
