use Rattle.lp_spec_voltages.proofs.Shifters.{reads-data}
use Rattle.lp_spec_voltages.proofs.laws.shifters_read_their_data.Goals as goal

pub returns : goal.returns
returns c = reads-data
