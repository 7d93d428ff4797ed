use Rattle.lp_spec_origins.proofs.JoinedLaws.{joined-one, joined-self, joined-back, joined-on}
use Rattle.lp_spec_origins.proofs.laws.joined_is_an_equivalence.Goals as goal

pub returns : goal.returns
returns c = record { one = joined-one; itself = joined-self; back = joined-back; on = joined-on }
