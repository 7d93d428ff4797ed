use Rattle.lp_spec_fit.proofs.Equal.{power_down_everywhere}
use Rattle.lp_spec_fit.proofs.laws.lost_with_its_supplies.Goals as goal

pub returns : goal.returns
returns c = power_down_everywhere
