use Rattle.lp_spec_network.proofs.FirstRow.{one-first_row}
use Rattle.lp_spec_network.proofs.laws.one_first_row.Goals as goal

pub returns : goal.returns
returns c = one-first_row
