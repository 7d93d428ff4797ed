use Rattle.lp_spec_hub.proofs.Hub.{whole}
use Rattle.lp_spec_hub.proofs.laws.plan_is_whole.Goals as goal

pub returns : goal.returns
returns c = whole
