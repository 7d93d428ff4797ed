use Rattle.lp_spec_network.proofs.SomeRow.{leaks_is}
use Rattle.lp_spec_network.proofs.laws.leaks_by_the_table.Goals as goal

pub returns : goal.returns
returns c = leaks_is
