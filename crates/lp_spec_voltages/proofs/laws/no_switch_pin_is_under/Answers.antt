use Rattle.lp_spec_voltages.proofs.Controls.{switch-not_under}
use Rattle.lp_spec_voltages.proofs.laws.no_switch_pin_is_under.Goals as goal

pub returns : goal.returns
returns c = switch-not_under
