use Rattle.lp_spec_voltages.proofs.Powers.{retention-power}
use Rattle.lp_spec_voltages.proofs.laws.retention_powers.Goals as goal

pub returns : goal.returns
returns c = retention-power
