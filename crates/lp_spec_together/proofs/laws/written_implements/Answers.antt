use Rattle.lp_spec_together.proofs.Joined.{written_implements}
use Rattle.lp_spec_together.proofs.laws.written_implements.Goals as goal

pub returns : goal.returns
returns c = written_implements c.written_has_content.ensures c.content_implements.ensures c.content_shows_the_same.ensures
