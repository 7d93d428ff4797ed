use Rattle.lp_spec_voltages.proofs.Powers.{shifter-output-power}
use Rattle.lp_spec_voltages.proofs.laws.shifter_output_power.Goals as goal

pub returns : goal.returns
returns c = shifter-output-power
