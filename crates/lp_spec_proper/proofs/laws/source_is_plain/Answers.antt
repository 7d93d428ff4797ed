use Rattle.lp_spec_proper.proofs.Plain.{is-plain}
use Rattle.lp_spec_proper.proofs.laws.source_is_plain.Goals as goal

pub returns : goal.returns
returns c = is-plain
