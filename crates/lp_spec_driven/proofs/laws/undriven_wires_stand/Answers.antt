use Rattle.lp_spec_driven.proofs.Stand.{undriven-stand}
use Rattle.lp_spec_driven.proofs.laws.undriven_wires_stand.Goals as goal

pub returns : goal.returns
returns c = undriven-stand
