use Rattle.lp_spec_driven.proofs.Begun.{switch-outputs-stand}
use Rattle.lp_spec_driven.proofs.laws.switch_outputs_stand.Goals as goal

pub returns : goal.returns
returns c = switch-outputs-stand
