use Rattle.lp_spec_hub.proofs.Hub.{origins}
use Rattle.lp_spec_hub.proofs.laws.origins_begin_as_intended.Goals as goal

pub returns : goal.returns
returns c = origins
