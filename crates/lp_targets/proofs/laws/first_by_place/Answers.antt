use Rattle.lp_targets.proofs.FirstLooped.{first_place}
use Rattle.lp_targets.proofs.laws.first_by_place.Goals as goal

pub returns : goal.returns
returns c = λ s rows a targets apart f. first_place s rows targets apart a f
