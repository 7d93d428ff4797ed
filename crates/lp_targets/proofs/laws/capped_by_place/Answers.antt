use Rattle.lp_targets.proofs.Capped.{by_place}
use Rattle.lp_targets.proofs.laws.capped_by_place.Goals as goal

pub returns : goal.returns
returns c = by_place
