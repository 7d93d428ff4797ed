use Rattle.lp_spec_wired.proofs.Supplies.{switches-come-down}
use Rattle.lp_spec_wired.proofs.laws.switch_outputs_come_down.Goals as goal

pub returns : goal.returns
returns c = switches-come-down
