use Rattle.lp_spec_wired.proofs.Others.{controls-no-others}
use Rattle.lp_spec_wired.proofs.laws.controls_are_no_others.Goals as goal

pub returns : goal.returns
returns c = controls-no-others
