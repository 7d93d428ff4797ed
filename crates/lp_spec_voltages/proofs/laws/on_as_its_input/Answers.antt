use Rattle.lp_spec_voltages.proofs.Roots.{input-on}
use Rattle.lp_spec_voltages.proofs.laws.on_as_its_input.Goals as goal

pub returns : goal.returns
returns c = input-on
