use Rattle.lp_spec_held.proofs.Inserted.{one_more_held}
use Rattle.lp_spec_held.proofs.laws.one_more_operator_is_held.Goals as goal

pub returns : goal.returns
returns c = one_more_held c.one_more_operator_changes_one_wire.ensures
