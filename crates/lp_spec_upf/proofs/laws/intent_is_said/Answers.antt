use Rattle.lp_spec_upf.proofs.Senses.{each}
use Rattle.lp_spec_upf.proofs.laws.intent_is_said.Goals as goal

pub returns : goal.returns
returns c = each
