use Rattle.lp_spec_network.proofs.FirstRow.{is-first_row}
use Rattle.lp_spec_network.proofs.laws.a_test_has_its_first_row.Goals as goal

pub returns : goal.returns
returns c = is-first_row
