use Rattle.lp_spec_proper.proofs.Enabled.{enables-there}
use Rattle.lp_spec_proper.proofs.laws.clamps_have_enables.Goals as goal

pub returns : goal.returns
returns c = enables-there
