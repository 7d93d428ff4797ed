use Rattle.lp_spec_wired.proofs.Others.{supplies-no-others}
use Rattle.lp_spec_wired.proofs.laws.supplies_are_no_others.Goals as goal

pub returns : goal.returns
returns c = supplies-no-others
