use Rattle.lp_spec_driven.proofs.Switches.{switches-give}
use Rattle.lp_spec_driven.proofs.laws.switches_give.Goals as goal

pub returns : goal.returns
returns c = switches-give
