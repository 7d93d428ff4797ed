use Rattle.lp_spec_one_domain.proofs.Empty.{nothing-planned}
use Rattle.lp_spec_one_domain.proofs.laws.nothing_is_planned.Goals as goal

pub returns : goal.returns
returns c = nothing-planned
