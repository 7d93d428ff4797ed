use Rattle.lp_spec_hub.proofs.laws.nodes_begin_behind_what_is_done.Goals as goal
use Rattle.lp_spec_hub.proofs.Hub.{nodes}

pub returns : goal.returns
returns c = nodes
