use Rattle.lp_spec_driven.proofs.WiresApart.{wires-apart}
use Rattle.lp_spec_driven.proofs.laws.wires_are_apart.Goals as goal

pub returns : goal.returns
returns c = wires-apart
