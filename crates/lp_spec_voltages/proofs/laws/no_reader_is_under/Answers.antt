use Rattle.lp_spec_voltages.proofs.Readings.{readings-not_under}
use Rattle.lp_spec_voltages.proofs.laws.no_reader_is_under.Goals as goal

pub returns : goal.returns
returns c = readings-not_under
