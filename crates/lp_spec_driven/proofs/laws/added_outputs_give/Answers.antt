use Rattle.lp_spec_driven.proofs.Added.{added-outputs-give}
use Rattle.lp_spec_driven.proofs.laws.added_outputs_give.Goals as goal

pub returns : goal.returns
returns c = added-outputs-give
