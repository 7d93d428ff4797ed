use Rattle.lp_spec_written_at.proofs.Paths.{same-module-paths}
use Rattle.lp_spec_written_at.proofs.laws.content_has_the_instances_of_the_source.Goals as goal

pub returns : goal.returns
returns c = same-module-paths
