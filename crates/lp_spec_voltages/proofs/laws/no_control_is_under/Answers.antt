use Rattle.lp_spec_voltages.proofs.Readings.{controls-not_under}
use Rattle.lp_spec_voltages.proofs.laws.no_control_is_under.Goals as goal

pub returns : goal.returns
returns c = controls-not_under
