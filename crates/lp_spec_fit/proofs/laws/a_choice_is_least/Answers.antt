use Rattle.lp_spec_fit.proofs.Chosen.{is_choice}
use Rattle.lp_spec_fit.proofs.laws.a_choice_is_least.Goals as goal

pub returns : goal.returns
returns c = is_choice
