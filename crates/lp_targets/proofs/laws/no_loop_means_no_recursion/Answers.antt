use Rattle.lp_targets.proofs.FirstLooped.{no_place}
use Rattle.lp_targets.proofs.laws.no_loop_means_no_recursion.Goals as goal

pub returns : goal.returns
returns c = λ s rows targets apart never. no_place s rows targets apart never
