use Rattle.lp_spec_design.proofs.Same.{same}
use Rattle.lp_spec_design.proofs.texts.functions_by_texts.Goals as goal

pub returns : goal.returns
returns c = same
