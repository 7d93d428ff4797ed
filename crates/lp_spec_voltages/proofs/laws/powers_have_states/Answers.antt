use Rattle.lp_spec_voltages.proofs.Roots.{power-states}
use Rattle.lp_spec_voltages.proofs.laws.powers_have_states.Goals as goal

pub returns : goal.returns
returns c = power-states
