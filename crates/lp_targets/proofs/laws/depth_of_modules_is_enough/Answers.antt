use Rattle.lp_targets.proofs.Together.{enough}
use Rattle.lp_targets.proofs.laws.depth_of_modules_is_enough.Goals as goal

pub returns : goal.returns
returns c = enough
