use Rattle.lp_spec_voltages.proofs.Together.{never-itself}
use Rattle.lp_spec_voltages.proofs.laws.never_under_itself.Goals as goal

pub returns : goal.returns
returns c = never-itself
