use Rattle.lp_spec_proper.proofs.Free.{ready}
use Rattle.lp_spec_proper.proofs.laws.insertable_is_ready.Goals as goal

pub returns : goal.returns
returns c = ready
