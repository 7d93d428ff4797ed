use Rattle.lp_spec_shared.proofs.Written.{shared-at}
use Rattle.lp_spec_shared.proofs.laws.shared_is_written_at.Goals as goal

pub returns : goal.returns
returns c = shared-at
