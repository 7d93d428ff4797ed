use Rattle.lp_spec_voltages.proofs.Readings.{pairs-by}
use Rattle.lp_spec_voltages.proofs.laws.pairs_by_their_powers.Goals as goal

pub returns : goal.returns
returns c = pairs-by
