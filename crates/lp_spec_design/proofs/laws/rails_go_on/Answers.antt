use Rattle.lp_spec_design.proofs.DesignLaws.{rail_after-append}
use Rattle.lp_spec_design.proofs.laws.rails_go_on.Goals as goal

pub returns : goal.returns
returns c r first second = rail_after-append r first second
