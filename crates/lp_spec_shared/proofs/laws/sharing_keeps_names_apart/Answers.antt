use Rattle.lp_spec_shared.proofs.Names.{shared-names}
use Rattle.lp_spec_shared.proofs.laws.sharing_keeps_names_apart.Goals as goal

pub returns : goal.returns
returns c = shared-names
