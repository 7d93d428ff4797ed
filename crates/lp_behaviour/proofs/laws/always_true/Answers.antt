use Rattle.lp_behaviour.proofs.Always.{true_always}
use Rattle.lp_behaviour.proofs.laws.always_true.Goals as goal

pub returns : goal.returns
returns c cell pins state e = true_always cell pins state e c.always_one.ensures
