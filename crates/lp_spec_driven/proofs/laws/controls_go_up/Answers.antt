use Rattle.lp_spec_driven.proofs.Up.{controls-go-up}
use Rattle.lp_spec_driven.proofs.laws.controls_go_up.Goals as goal

pub returns : goal.returns
returns c = controls-go-up
