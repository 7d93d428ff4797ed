use Rattle.lp_spec_wired.proofs.Wires.{leads-not-made}
use Rattle.lp_spec_wired.proofs.laws.constant_nets_are_not_made.Goals as goal

pub returns : goal.returns
returns c = leads-not-made
