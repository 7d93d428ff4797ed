use Rattle.lp_spec_voltages.proofs.Together.{fitting-inside}
use Rattle.lp_spec_voltages.proofs.laws.fitting_is_inside.Goals as goal

pub returns : goal.returns
returns c = fitting-inside
