use Rattle.lp_spec_voltages.proofs.Controls.{signal-not_under}
use Rattle.lp_spec_voltages.proofs.laws.no_retention_pin_is_under.Goals as goal

pub returns : goal.returns
returns c = signal-not_under
