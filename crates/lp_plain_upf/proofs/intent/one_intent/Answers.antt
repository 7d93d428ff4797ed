use Rattle.lp_plain_upf.proofs.Reading.{one_intent}
use Rattle.lp_plain_upf.proofs.intent.one_intent.Goals as goal

pub returns : goal.returns
returns c = one_intent
