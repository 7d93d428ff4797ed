use Rattle.lp_spec_hub.proofs.Hub.{by_bits}
use Rattle.lp_spec_hub.proofs.laws.plan_goes_by_boundary_bits.Goals as goal

pub returns : goal.returns
returns c = by_bits
