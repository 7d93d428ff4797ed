use Rattle.lp_spec_voltages.proofs.Pairs.{top-powers}
use Rattle.lp_spec_voltages.proofs.laws.top_powers.Goals as goal

pub returns : goal.returns
returns c = top-powers
