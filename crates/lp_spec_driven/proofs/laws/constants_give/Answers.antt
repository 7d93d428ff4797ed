use Rattle.lp_spec_driven.proofs.AddedAssigns.{constants-give}
use Rattle.lp_spec_driven.proofs.laws.constants_give.Goals as goal

pub returns : goal.returns
returns c = constants-give
