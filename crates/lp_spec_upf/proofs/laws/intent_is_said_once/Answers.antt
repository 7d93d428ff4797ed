use Rattle.lp_spec_upf.proofs.Once.{once}
use Rattle.lp_spec_upf.proofs.laws.intent_is_said_once.Goals as goal

pub returns : goal.returns
returns c = once
