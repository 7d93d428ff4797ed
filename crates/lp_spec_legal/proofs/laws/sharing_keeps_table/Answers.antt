use Rattle.lp_spec_legal.proofs.Shared.{shared-table}
use Rattle.lp_spec_legal.proofs.laws.sharing_keeps_table.Goals as goal

pub returns : goal.returns
returns c = shared-table
