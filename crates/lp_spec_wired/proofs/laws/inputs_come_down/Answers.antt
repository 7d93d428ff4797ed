use Rattle.lp_spec_wired.proofs.Kept.{inputs-come-down}
use Rattle.lp_spec_wired.proofs.laws.inputs_come_down.Goals as goal

pub returns : goal.returns
returns c = inputs-come-down
