use Rattle.lp_spec_wired.proofs.Bits.{node-names-apart}
use Rattle.lp_spec_wired.proofs.laws.node_names_are_apart.Goals as goal

pub returns : goal.returns
returns c = node-names-apart
