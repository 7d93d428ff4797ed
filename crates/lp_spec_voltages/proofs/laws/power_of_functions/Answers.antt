use Rattle.lp_spec_voltages.proofs.Readings.{power-is}
use Rattle.lp_spec_voltages.proofs.laws.power_of_functions.Goals as goal

pub returns : goal.returns
returns c = power-is
