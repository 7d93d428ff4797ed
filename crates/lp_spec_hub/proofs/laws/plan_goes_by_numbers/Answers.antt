use Rattle.lp_spec_hub.proofs.Hub.{by_numbers}
use Rattle.lp_spec_hub.proofs.laws.plan_goes_by_numbers.Goals as goal

pub returns : goal.returns
returns c = by_numbers
