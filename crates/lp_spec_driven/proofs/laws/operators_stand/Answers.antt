use Rattle.lp_spec_driven.proofs.Made.{operators-stand}
use Rattle.lp_spec_driven.proofs.laws.operators_stand.Goals as goal

pub returns : goal.returns
returns c = operators-stand
