use Rattle.lp_spec_together.proofs.Joined.{written_has_content}
use Rattle.lp_spec_together.proofs.laws.written_has_content.Goals as goal

pub returns : goal.returns
returns c = written_has_content
