use Rattle.lp_spec_plain.proofs.Supplied.{supplied}
use Rattle.lp_spec_plain.proofs.laws.plain_netlist_is_supplied.Goals as goal

pub returns : goal.returns
returns c d w own power gnd carries = supplied d w own power gnd carries
