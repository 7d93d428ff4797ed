use Rattle.lp_spec_proper.proofs.Owed.{is-orderly}
use Rattle.lp_spec_proper.proofs.laws.insertable_is_orderly.Goals as goal

pub returns : goal.returns
returns c = is-orderly
