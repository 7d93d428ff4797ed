use Rattle.lp_spec_resolved.proofs.Numbers.{nodes-are-found}
use Rattle.lp_spec_resolved.proofs.laws.nodes_are_found.Goals as goal

pub returns : goal.returns
returns c = nodes-are-found
