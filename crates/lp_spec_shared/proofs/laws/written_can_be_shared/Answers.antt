use Rattle.lp_spec_shared.proofs.Written.{can-be-shared}
use Rattle.lp_spec_shared.proofs.laws.written_can_be_shared.Goals as goal

pub returns : goal.returns
returns c = can-be-shared
