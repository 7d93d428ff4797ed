use Rattle.lp_spec_resolved.proofs.Whole.{origins-named}
use Rattle.lp_spec_resolved.proofs.laws.origins_are_named.Goals as goal

pub returns : goal.returns
returns c = origins-named
