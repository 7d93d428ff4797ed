use Rattle.lp_spec_design.proofs.DesignLaws.{clamp-holds}
use Rattle.lp_spec_design.proofs.laws.active_clamp_holds.Goals as goal

pub returns : goal.returns
returns c n i A v t s k is active on = clamp-holds n i A v t s k is active on
