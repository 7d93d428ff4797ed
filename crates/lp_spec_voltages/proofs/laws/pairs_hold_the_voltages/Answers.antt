use Rattle.lp_spec_voltages.proofs.Together.{pair-in}
use Rattle.lp_spec_voltages.proofs.laws.pairs_hold_the_voltages.Goals as goal

pub returns : goal.returns
returns c = pair-in
