use Rattle.lp_targets.proofs.Recursion.{no_recursion}
use Rattle.lp_targets.proofs.laws.order_means_no_recursion.Goals as goal

pub returns : goal.returns
returns c = no_recursion
