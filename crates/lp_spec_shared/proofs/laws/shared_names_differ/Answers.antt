use Rattle.lp_spec_shared.proofs.Written.{shared-apart}
use Rattle.lp_spec_shared.proofs.laws.shared_names_differ.Goals as goal

pub returns : goal.returns
returns c = shared-apart
