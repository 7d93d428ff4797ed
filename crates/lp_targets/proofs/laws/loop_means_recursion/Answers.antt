use Rattle.lp_targets.proofs.Looping.{loop_found}
use Rattle.lp_targets.proofs.laws.loop_means_recursion.Goals as goal

pub returns : goal.returns
returns c = loop_found
