use Rattle.lp_spec_proper.proofs.Routed.{routes-law}
use Rattle.lp_spec_proper.proofs.laws.additions_have_routes.Goals as goal

pub returns : goal.returns
returns c = routes-law c.routes_are_sound.ensures c.parts_stand_aside.ensures
