use Rattle.lp_behaviour.proofs.Always.{false_always}
use Rattle.lp_behaviour.proofs.laws.always_false.Goals as goal

pub returns : goal.returns
returns c cell pins state e = false_always cell pins state e c.always_zero.ensures
