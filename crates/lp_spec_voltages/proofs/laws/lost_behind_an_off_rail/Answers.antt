use Rattle.lp_spec_voltages.proofs.Chains.{lost-behind}
use Rattle.lp_spec_voltages.proofs.laws.lost_behind_an_off_rail.Goals as goal

pub returns : goal.returns
returns c = lost-behind
