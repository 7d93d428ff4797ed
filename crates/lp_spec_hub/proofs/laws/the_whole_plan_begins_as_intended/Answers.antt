use Rattle.lp_spec_hub.proofs.Hub.{whole_plan}
use Rattle.lp_spec_hub.proofs.laws.the_whole_plan_begins_as_intended.Goals as goal

pub returns : goal.returns
returns c = whole_plan
