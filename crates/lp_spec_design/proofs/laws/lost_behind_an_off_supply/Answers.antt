use Rattle.lp_spec_design.proofs.DesignLaws.{through-off}
use Rattle.lp_spec_design.proofs.laws.lost_behind_an_off_supply.Goals as goal

pub returns : goal.returns
returns c n i A r v operators lost off = through-off n i A r v operators lost off
