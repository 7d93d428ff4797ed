use Rattle.lp_spec_proper.proofs.Uses.{uses-there}
use Rattle.lp_spec_proper.proofs.laws.uses_are_of_origins.Goals as goal

pub returns : goal.returns
returns c = uses-there
