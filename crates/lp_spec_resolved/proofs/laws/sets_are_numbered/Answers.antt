use Rattle.lp_spec_resolved.proofs.Whole.{sets-numbered}
use Rattle.lp_spec_resolved.proofs.laws.sets_are_numbered.Goals as goal

pub returns : goal.returns
returns c = sets-numbered
