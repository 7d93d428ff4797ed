use Rattle.lp_spec_driven.proofs.Assigns.{assigns-give}
use Rattle.lp_spec_driven.proofs.laws.assigns_give.Goals as goal

pub returns : goal.returns
returns c = assigns-give
