use Rattle.lp_spec_wired.proofs.Bits.{node-names-not-made}
use Rattle.lp_spec_wired.proofs.laws.node_names_are_not_made.Goals as goal

pub returns : goal.returns
returns c = node-names-not-made
