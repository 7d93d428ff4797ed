use Rattle.lp_spec_wired.proofs.Wires.{leads-apart}
use Rattle.lp_spec_wired.proofs.laws.constant_nets_are_apart.Goals as goal

pub returns : goal.returns
returns c = leads-apart
