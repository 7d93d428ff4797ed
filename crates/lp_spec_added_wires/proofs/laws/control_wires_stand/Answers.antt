use Rattle.lp_spec_added_wires.proofs.ControlWires.{control-wires-stand}
use Rattle.lp_spec_added_wires.proofs.laws.control_wires_stand.Goals as goal

pub returns : goal.returns
returns c = control-wires-stand
