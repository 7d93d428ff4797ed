use Rattle.lp_spec_shared.proofs.Sharing.{reached-shared}
use Rattle.lp_spec_shared.proofs.laws.sharing_keeps_modules_reached.Goals as goal

pub returns : goal.returns
returns c = reached-shared
