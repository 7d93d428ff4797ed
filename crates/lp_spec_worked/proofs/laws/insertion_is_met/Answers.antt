use Rattle.lp_spec_worked.proofs.Whole.{insertion_is_met}
use Rattle.lp_spec_worked.proofs.laws.insertion_is_met.Goals as goal

pub returns : goal.returns
returns c = insertion_is_met c.shared_implements.ensures
