use Rattle.lp_spec_resolved.proofs.Whole.{origins-visible}
use Rattle.lp_spec_resolved.proofs.laws.origins_are_visible.Goals as goal

pub returns : goal.returns
returns c = origins-visible
