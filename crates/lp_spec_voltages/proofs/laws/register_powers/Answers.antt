use Rattle.lp_spec_voltages.proofs.Powers.{register-power}
use Rattle.lp_spec_voltages.proofs.laws.register_powers.Goals as goal

pub returns : goal.returns
returns c = register-power
