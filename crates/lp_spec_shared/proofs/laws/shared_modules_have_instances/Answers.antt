use Rattle.lp_spec_shared.proofs.Written.{shared-reached}
use Rattle.lp_spec_shared.proofs.laws.shared_modules_have_instances.Goals as goal

pub returns : goal.returns
returns c = shared-reached
