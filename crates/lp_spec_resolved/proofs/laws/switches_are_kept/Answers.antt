use Rattle.lp_spec_resolved.proofs.Whole.{switches-kept}
use Rattle.lp_spec_resolved.proofs.laws.switches_are_kept.Goals as goal

pub returns : goal.returns
returns c = switches-kept
