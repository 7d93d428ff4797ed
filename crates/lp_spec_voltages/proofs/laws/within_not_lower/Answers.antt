use Rattle.lp_spec_voltages.proofs.Within.{never-under}
use Rattle.lp_spec_voltages.proofs.laws.within_not_lower.Goals as goal

pub returns : goal.returns
returns c = never-under
