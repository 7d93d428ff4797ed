use Rattle.lp_spec_data_wires.proofs.Wires.{data-wires-stand}
use Rattle.lp_spec_data_wires.proofs.laws.data_wires_stand.Goals as goal

pub returns : goal.returns
returns c = data-wires-stand
