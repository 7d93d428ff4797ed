use Rattle.lp_spec_single.proofs.Differ.{sources-differ}
use Rattle.lp_spec_single.proofs.laws.sources_differ.Goals as goal

pub returns : goal.returns
returns c = sources-differ
