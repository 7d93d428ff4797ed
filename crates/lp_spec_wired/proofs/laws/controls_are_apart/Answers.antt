use Rattle.lp_spec_wired.proofs.Others.{controls-apart}
use Rattle.lp_spec_wired.proofs.laws.controls_are_apart.Goals as goal

pub returns : goal.returns
returns c = controls-apart
