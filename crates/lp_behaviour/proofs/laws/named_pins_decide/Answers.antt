use Rattle.lp_behaviour.proofs.Always.{pins_decide}
use Rattle.lp_behaviour.proofs.laws.named_pins_decide.Goals as goal

pub returns : goal.returns
returns c cell a b state e same = pins_decide cell a b state e same
