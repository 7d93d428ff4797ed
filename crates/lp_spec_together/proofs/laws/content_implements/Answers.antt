use Rattle.lp_spec_together.proofs.Joined.{content_implements}
use Rattle.lp_spec_together.proofs.laws.content_implements.Goals as goal

pub returns : goal.returns
returns c = content_implements c.ways_stand_apart.ensures c.operators_have_their_cells.ensures c.content_is_wired.ensures
