use Rattle.lp_spec_hub.proofs.laws.controls_begin_where_their_nodes_do.Goals as goal
use Rattle.lp_spec_hub.proofs.Hub.{controls}

pub returns : goal.returns
returns c = controls
