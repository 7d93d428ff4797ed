use Rattle.lp_spec_resolved.proofs.Whole.{text-is-intended}
use Rattle.lp_spec_resolved.proofs.laws.text_is_intended.Goals as goal

pub returns : goal.returns
returns c = text-is-intended
