use Rattle.lp_spec_driven.proofs.Stand.{driven-as-told}
use Rattle.lp_spec_driven.proofs.laws.net_bits_are_driven_as_told.Goals as goal

pub returns : goal.returns
returns c = driven-as-told
