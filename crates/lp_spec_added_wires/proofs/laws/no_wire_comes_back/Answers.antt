use Rattle.lp_spec_added_wires.proofs.NoLoop.{no-wire-comes-back}
use Rattle.lp_spec_added_wires.proofs.laws.no_wire_comes_back.Goals as goal

pub returns : goal.returns
returns c = no-wire-comes-back
