use Rattle.lp_spec_voltages.proofs.Together.{shared-not_under}
use Rattle.lp_spec_voltages.proofs.laws.shared_power_is_not_under.Goals as goal

pub returns : goal.returns
returns c = shared-not_under
