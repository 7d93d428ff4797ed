use Rattle.lp_spec_voltages.proofs.Chains.{shifter-rail}
use Rattle.lp_spec_voltages.proofs.laws.shifters_take_their_rail.Goals as goal

pub returns : goal.returns
returns c = shifter-rail
