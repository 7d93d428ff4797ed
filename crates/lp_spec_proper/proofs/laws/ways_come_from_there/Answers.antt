use Rattle.lp_spec_proper.proofs.OnWays.{comes-law}
use Rattle.lp_spec_proper.proofs.laws.ways_come_from_there.Goals as goal

pub returns : goal.returns
returns c = comes-law c.ways_stand_apart.ensures c.ways_come_from_their_bits.ensures
