use Rattle.lp_spec_voltages.proofs.Controls.{enable-not_under}
use Rattle.lp_spec_voltages.proofs.laws.no_enable_is_under.Goals as goal

pub returns : goal.returns
returns c = enable-not_under
