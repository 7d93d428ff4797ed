use Rattle.lp_spec_voltages.proofs.Powers.{source-power}
use Rattle.lp_spec_voltages.proofs.laws.source_powers.Goals as goal

pub returns : goal.returns
returns c = source-power
