use Rattle.lp_spec_driven.proofs.Begun.{constant-nets-stand}
use Rattle.lp_spec_driven.proofs.laws.constant_nets_stand.Goals as goal

pub returns : goal.returns
returns c = constant-nets-stand
