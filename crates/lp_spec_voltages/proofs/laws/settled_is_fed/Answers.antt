use Rattle.lp_spec_voltages.proofs.Roots.{settled-fed}
use Rattle.lp_spec_voltages.proofs.laws.settled_is_fed.Goals as goal

pub returns : goal.returns
returns c = settled-fed
