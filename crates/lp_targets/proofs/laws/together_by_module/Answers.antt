use Rattle.lp_targets.proofs.Together.{by_module}
use Rattle.lp_targets.proofs.laws.together_by_module.Goals as goal

pub returns : goal.returns
returns c = by_module
