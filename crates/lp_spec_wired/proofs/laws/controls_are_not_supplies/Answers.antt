use Rattle.lp_spec_wired.proofs.Others.{controls-not-supplies}
use Rattle.lp_spec_wired.proofs.laws.controls_are_not_supplies.Goals as goal

pub returns : goal.returns
returns c = controls-not-supplies
