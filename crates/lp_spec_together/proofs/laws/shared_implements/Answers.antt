use Rattle.lp_spec_together.proofs.Joined.{shared_implements}
use Rattle.lp_spec_together.proofs.laws.shared_implements.Goals as goal

pub returns : goal.returns
returns c = shared_implements c.shared_has_content.ensures c.content_implements.ensures c.content_shows_the_same.ensures
