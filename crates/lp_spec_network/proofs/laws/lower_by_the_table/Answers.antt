use Rattle.lp_spec_network.proofs.SomeRow.{lower_is}
use Rattle.lp_spec_network.proofs.laws.lower_by_the_table.Goals as goal

-- src/laws.rt:11:1
pub returns : goal.returns
returns c = lower_is
