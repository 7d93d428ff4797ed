use Rattle.lp_spec_data_wires.proofs.AllWires.{wires-stand}
use Rattle.lp_spec_data_wires.proofs.laws.wires_stand.Goals as goal

pub returns : goal.returns
returns c = wires-stand
