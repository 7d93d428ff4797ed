use Rattle.lp_spec_voltages.proofs.Together.{inside}
use Rattle.lp_spec_voltages.proofs.laws.taken_is_inside.Goals as goal

pub returns : goal.returns
returns c = inside
