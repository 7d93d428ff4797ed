use Rattle.lp_spec_added_wires.proofs.SupplyWires.{supply-wires-stand}
use Rattle.lp_spec_added_wires.proofs.laws.supply_wires_stand.Goals as goal

pub returns : goal.returns
returns c = supply-wires-stand
