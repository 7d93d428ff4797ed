use Rattle.lp_spec_legal.proofs.Shared.{shared-formed}
use Rattle.lp_spec_legal.proofs.laws.sharing_keeps_form.Goals as goal

pub returns : goal.returns
returns c = shared-formed
