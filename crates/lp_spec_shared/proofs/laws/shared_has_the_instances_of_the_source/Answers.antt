use Rattle.lp_spec_shared.proofs.Written.{shared-paths}
use Rattle.lp_spec_shared.proofs.laws.shared_has_the_instances_of_the_source.Goals as goal

pub returns : goal.returns
returns c = shared-paths
