use Rattle.lp_spec_voltages.proofs.Roots.{input-states}
use Rattle.lp_spec_voltages.proofs.laws.inputs_have_states.Goals as goal

pub returns : goal.returns
returns c = input-states
