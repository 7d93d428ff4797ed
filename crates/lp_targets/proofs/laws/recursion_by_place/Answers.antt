use Rattle.lp_targets.proofs.FirstLooped.{by_place}
use Rattle.lp_targets.proofs.laws.recursion_by_place.Goals as goal

pub returns : goal.returns
returns c = λ s rows a m targets apart at. by_place s rows targets apart a m at
