use Rattle.lp_spec_design.proofs.Corrupted.{corrupted}
use Rattle.lp_spec_design.proofs.laws.lost_where_the_rail_is_off.Goals as goal

pub returns : goal.returns
returns c d ev regs A settles fuel k r is off = corrupted d ev regs A settles fuel k r is off
