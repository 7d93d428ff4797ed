use Rattle.lp_spec_written_at.proofs.Netlists.{is-shallow}
use Rattle.lp_spec_written_at.proofs.laws.content_is_shallow.Goals as goal

pub returns : goal.returns
returns c = is-shallow
