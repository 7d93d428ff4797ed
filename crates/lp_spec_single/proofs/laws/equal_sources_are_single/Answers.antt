use Rattle.lp_spec_single.proofs.Differ.{equal-are-single}
use Rattle.lp_spec_single.proofs.laws.equal_sources_are_single.Goals as goal

pub returns : goal.returns
returns c = equal-are-single
