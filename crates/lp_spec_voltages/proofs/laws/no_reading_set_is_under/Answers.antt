use Rattle.lp_spec_voltages.proofs.Readings.{reading-sets}
use Rattle.lp_spec_voltages.proofs.laws.no_reading_set_is_under.Goals as goal

pub returns : goal.returns
returns c = reading-sets
