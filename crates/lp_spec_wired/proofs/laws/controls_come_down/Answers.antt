use Rattle.lp_spec_wired.proofs.Controls.{controls-come-down}
use Rattle.lp_spec_wired.proofs.laws.controls_come_down.Goals as goal

pub returns : goal.returns
returns c = controls-come-down
