use Rattle.lp_spec_driven.proofs.Outer.{outer-sides-stand}
use Rattle.lp_spec_driven.proofs.laws.outer_sides_stand.Goals as goal

pub returns : goal.returns
returns c = outer-sides-stand
