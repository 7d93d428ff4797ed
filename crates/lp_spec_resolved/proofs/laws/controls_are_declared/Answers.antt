use Rattle.lp_spec_resolved.proofs.Whole.{controls-declared}
use Rattle.lp_spec_resolved.proofs.laws.controls_are_declared.Goals as goal

pub returns : goal.returns
returns c = controls-declared
