use Rattle.lp_spec_driven.proofs.Up.{supplies-go-up}
use Rattle.lp_spec_driven.proofs.laws.supplies_go_up.Goals as goal

pub returns : goal.returns
returns c = supplies-go-up
