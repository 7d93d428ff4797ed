use Rattle.lp_spec_hub.proofs.Hub.{wired}
use Rattle.lp_spec_hub.proofs.laws.wires_have_their_ends.Goals as goal

pub returns : goal.returns
returns c = wired
