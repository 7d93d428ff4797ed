use Rattle.lp_spec_wired.proofs.Others.{supplies-apart}
use Rattle.lp_spec_wired.proofs.laws.supplies_are_apart.Goals as goal

pub returns : goal.returns
returns c = supplies-apart
