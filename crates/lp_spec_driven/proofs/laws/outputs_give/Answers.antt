use Rattle.lp_spec_driven.proofs.Outputs.{outputs-give}
use Rattle.lp_spec_driven.proofs.laws.outputs_give.Goals as goal

pub returns : goal.returns
returns c = outputs-give
