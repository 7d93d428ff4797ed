use Rattle.lp_spec_proper.proofs.OnWays.{on-ways-law}
use Rattle.lp_spec_proper.proofs.laws.additions_stand_on_ways.Goals as goal

pub returns : goal.returns
returns c = on-ways-law c.ways_stand_apart.ensures c.operators_have_their_cells.ensures c.plan_is_in_flow.ensures c.operators_stand_near_their_bits.ensures
