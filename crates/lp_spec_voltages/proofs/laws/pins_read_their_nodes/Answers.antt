use Rattle.lp_spec_voltages.proofs.Pairs.{pin-reads}
use Rattle.lp_spec_voltages.proofs.laws.pins_read_their_nodes.Goals as goal

pub returns : goal.returns
returns c = pin-reads
