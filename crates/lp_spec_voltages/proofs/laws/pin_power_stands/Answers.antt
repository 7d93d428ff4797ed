use Rattle.lp_spec_voltages.proofs.Pairs.{pin-power}
use Rattle.lp_spec_voltages.proofs.laws.pin_power_stands.Goals as goal

pub returns : goal.returns
returns c = pin-power
