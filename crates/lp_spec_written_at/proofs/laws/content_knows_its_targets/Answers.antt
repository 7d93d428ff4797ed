use Rattle.lp_spec_written_at.proofs.Netlists.{knows-targets}
use Rattle.lp_spec_written_at.proofs.laws.content_knows_its_targets.Goals as goal

pub returns : goal.returns
returns c = knows-targets
