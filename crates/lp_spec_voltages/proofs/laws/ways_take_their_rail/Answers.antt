use Rattle.lp_spec_voltages.proofs.Chains.{way-reaches}
use Rattle.lp_spec_voltages.proofs.laws.ways_take_their_rail.Goals as goal

pub returns : goal.returns
returns c = way-reaches
