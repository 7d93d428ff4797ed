use Rattle.lp_spec_wired.proofs.Ports.{no-ports}
use Rattle.lp_spec_wired.proofs.laws.chain_nets_have_no_ports.Goals as goal

pub returns : goal.returns
returns c = no-ports
