use Rattle.lp_spec_origins.proofs.JoinedLaws.{group-joined}
use Rattle.lp_spec_origins.proofs.laws.a_closed_group_is_all.Goals as goal

pub returns : goal.returns
returns c = group-joined
