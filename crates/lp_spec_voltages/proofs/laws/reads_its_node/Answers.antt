use Rattle.lp_spec_voltages.proofs.Readings.{reads-node}
use Rattle.lp_spec_voltages.proofs.laws.reads_its_node.Goals as goal

pub returns : goal.returns
returns c = reads-node
