use Rattle.lp_spec_hub.proofs.Hub.{supplied}
use Rattle.lp_spec_hub.proofs.laws.supplies_begin_at_their_origins.Goals as goal

pub returns : goal.returns
returns c = supplied
