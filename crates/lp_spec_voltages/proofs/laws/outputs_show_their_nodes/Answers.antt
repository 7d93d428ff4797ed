use Rattle.lp_spec_voltages.proofs.Readers.{output-shown}
use Rattle.lp_spec_voltages.proofs.laws.outputs_show_their_nodes.Goals as goal

pub returns : goal.returns
returns c = output-shown
