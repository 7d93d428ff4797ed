use Rattle.lp_spec_driven.proofs.Given.{sources-give}
use Rattle.lp_spec_driven.proofs.laws.sources_give.Goals as goal

pub returns : goal.returns
returns c = sources-give
