use Rattle.lp_targets.proofs.Capped.{tells_over}
use Rattle.lp_targets.proofs.laws.capped_tells_over.Goals as goal

pub returns : goal.returns
returns c = tells_over
