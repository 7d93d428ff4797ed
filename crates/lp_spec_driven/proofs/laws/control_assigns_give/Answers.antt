use Rattle.lp_spec_driven.proofs.AddedAssigns.{control-assigns-give}
use Rattle.lp_spec_driven.proofs.laws.control_assigns_give.Goals as goal

pub returns : goal.returns
returns c = control-assigns-give
