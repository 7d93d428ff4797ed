use Rattle.lp_spec_wired.proofs.Wires.{operator-wires-apart}
use Rattle.lp_spec_wired.proofs.laws.operator_wires_are_apart.Goals as goal

pub returns : goal.returns
returns c = operator-wires-apart
