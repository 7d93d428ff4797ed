use Rattle.lp_spec_drivers.proofs.Least.{first-entered}
use Rattle.lp_spec_drivers.proofs.laws.first_entered_twice.Goals as goal

pub returns : goal.returns
returns c = first-entered
