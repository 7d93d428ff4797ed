use Rattle.lp_spec_together.proofs.Indices.{content_keeps_indices}
use Rattle.lp_spec_together.proofs.laws.content_keeps_indices.Goals as goal

pub returns : goal.returns
returns c = content_keeps_indices
