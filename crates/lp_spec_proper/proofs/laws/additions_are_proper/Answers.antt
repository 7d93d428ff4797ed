use Rattle.lp_spec_proper.proofs.Whole.{proper-law}
use Rattle.lp_spec_proper.proofs.laws.additions_are_proper.Goals as goal

pub returns : goal.returns
returns c = proper-law c.additions_have_names.ensures c.additions_stand_on_ways.ensures c.ways_come_from_there.ensures c.additions_have_routes.ensures
