use Rattle.lp_spec_together.proofs.Supplied.{realised_is_supplied}
use Rattle.lp_spec_together.proofs.laws.realised_is_supplied.Goals as goal

pub returns : goal.returns
returns c = realised_is_supplied
