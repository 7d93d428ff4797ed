use Rattle.lp_spec_sources.proofs.Whole.{single-sources}
use Rattle.lp_spec_sources.proofs.laws.content_has_single_sources.Goals as goal

pub returns : goal.returns
returns c = single-sources c.additions_are_proper.ensures c.sources_are_equal.ensures c.content_has_own_names.ensures c.equal_sources_are_single.ensures
