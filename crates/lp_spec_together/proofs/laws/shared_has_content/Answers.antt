use Rattle.lp_spec_together.proofs.Joined.{shared_has_content}
use Rattle.lp_spec_together.proofs.laws.shared_has_content.Goals as goal

pub returns : goal.returns
returns c = shared_has_content
