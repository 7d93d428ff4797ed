use Rattle.lp_spec_written_at.proofs.InstanceNames.{instance-names}
use Rattle.lp_spec_written_at.proofs.laws.written_instance_names_differ.Goals as goal

pub returns : goal.returns
returns c = instance-names
