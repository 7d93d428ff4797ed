use Rattle.lp_spec_hub.proofs.Hub.{begins}
use Rattle.lp_spec_hub.proofs.laws.net_bits_begin_as_intended.Goals as goal

pub returns : goal.returns
returns c = begins
