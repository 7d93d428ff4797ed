use Rattle.lp_spec_legal.proofs.Tables.{shared-has}
use Rattle.lp_spec_legal.proofs.laws.shared_has_table.Goals as goal

pub returns : goal.returns
returns c = shared-has
