use Rattle.lp_spec_proper.proofs.Places.{has-places}
use Rattle.lp_spec_proper.proofs.laws.additions_have_places.Goals as goal

pub returns : goal.returns
returns c = has-places
