use Rattle.lp_spec_voltages.proofs.Powers.{shifter-data-power}
use Rattle.lp_spec_voltages.proofs.laws.shifter_data_power.Goals as goal

pub returns : goal.returns
returns c = shifter-data-power
