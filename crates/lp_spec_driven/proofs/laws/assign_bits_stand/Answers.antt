use Rattle.lp_spec_driven.proofs.Have.{assign-bits-stand}
use Rattle.lp_spec_driven.proofs.laws.assign_bits_stand.Goals as goal

pub returns : goal.returns
returns c = assign-bits-stand
