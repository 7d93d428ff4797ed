use Rattle.lp_spec_layout.proofs.OnePass.{one-pass}
use Rattle.lp_spec_layout.proofs.laws.noted_in_one_pass.Goals as goal

pub returns : goal.returns
returns c = one-pass
