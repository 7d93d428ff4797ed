use Rattle.lp_spec_voltages.proofs.Powers.{clamp-power}
use Rattle.lp_spec_voltages.proofs.laws.clamp_powers.Goals as goal

pub returns : goal.returns
returns c = clamp-power
