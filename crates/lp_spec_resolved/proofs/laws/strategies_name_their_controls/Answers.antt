use Rattle.lp_spec_resolved.proofs.Whole.{strategies-name}
use Rattle.lp_spec_resolved.proofs.laws.strategies_name_their_controls.Goals as goal

pub returns : goal.returns
returns c = strategies-name
