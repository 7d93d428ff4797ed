use Rattle.lp_spec_voltages.proofs.Chains.{by-output}
use Rattle.lp_spec_voltages.proofs.laws.shifted_by_the_output.Goals as goal

pub returns : goal.returns
returns c = by-output
