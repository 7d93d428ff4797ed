use Rattle.lp_spec_together.proofs.Joined.{content_shows_the_same}
use Rattle.lp_spec_together.proofs.laws.content_shows_the_same.Goals as goal

pub returns : goal.returns
returns c = content_shows_the_same c.ways_stand_apart.ensures c.operators_have_their_cells.ensures c.content_is_wired.ensures
