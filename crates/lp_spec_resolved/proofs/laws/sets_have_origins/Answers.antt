use Rattle.lp_spec_resolved.proofs.Whole.{sets-have}
use Rattle.lp_spec_resolved.proofs.laws.sets_have_origins.Goals as goal

pub returns : goal.returns
returns c = sets-have
