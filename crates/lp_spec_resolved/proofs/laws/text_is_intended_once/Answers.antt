use Rattle.lp_spec_resolved.proofs.Whole.{intended-once}
use Rattle.lp_spec_resolved.proofs.laws.text_is_intended_once.Goals as goal

pub returns : goal.returns
returns c = intended-once
