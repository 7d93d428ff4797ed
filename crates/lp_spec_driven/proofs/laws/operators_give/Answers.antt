use Rattle.lp_spec_driven.proofs.Operators.{operators-give}
use Rattle.lp_spec_driven.proofs.laws.operators_give.Goals as goal

pub returns : goal.returns
returns c = operators-give
