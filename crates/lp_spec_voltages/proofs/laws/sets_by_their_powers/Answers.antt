use Rattle.lp_spec_voltages.proofs.Readings.{not-under_by}
use Rattle.lp_spec_voltages.proofs.laws.sets_by_their_powers.Goals as goal

pub returns : goal.returns
returns c = not-under_by
