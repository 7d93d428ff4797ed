use Rattle.lp_spec_added_wires.proofs.Closed.{wires-are-closed}
use Rattle.lp_spec_added_wires.proofs.laws.wires_are_closed.Goals as goal

pub returns : goal.returns
returns c = wires-are-closed
