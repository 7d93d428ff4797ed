use Rattle.lp_spec_drivers.proofs.Below.{below_there}
use Rattle.lp_spec_drivers.proofs.laws.below_is_there.Goals as goal

pub returns : goal.returns
returns c = λ s templates are z. below_there s templates are z
