use Rattle.lp_spec_legal.proofs.Whole.{shared-is-formed}
use Rattle.lp_spec_legal.proofs.laws.shared_is_well_formed.Goals as goal

pub returns : goal.returns
returns c = shared-is-formed
