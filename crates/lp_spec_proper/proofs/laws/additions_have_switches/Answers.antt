use Rattle.lp_spec_proper.proofs.Switched.{has-switches}
use Rattle.lp_spec_proper.proofs.laws.additions_have_switches.Goals as goal

pub returns : goal.returns
returns c = has-switches
