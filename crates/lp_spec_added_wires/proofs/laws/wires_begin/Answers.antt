use Rattle.lp_spec_added_wires.proofs.Beginnings.{wires-begin}
use Rattle.lp_spec_added_wires.proofs.laws.wires_begin.Goals as goal

pub returns : goal.returns
returns c = wires-begin
