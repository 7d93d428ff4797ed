use Rattle.lp_spec_proper.proofs.Owed.{ports-have}
use Rattle.lp_spec_proper.proofs.laws.ports_have_supplies.Goals as goal

pub returns : goal.returns
returns c = ports-have
