use Rattle.lp_spec_proper.proofs.Places.{route-control}
use Rattle.lp_spec_proper.proofs.laws.routes_are_of_controls.Goals as goal

pub returns : goal.returns
returns c = route-control
