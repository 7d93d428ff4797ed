use Rattle.lp_spec_bridge.proofs.Kept.{sources_kept}
use Rattle.lp_spec_bridge.proofs.laws.noted_are_sources.Goals as goal

pub returns : goal.returns
returns c = sources_kept
