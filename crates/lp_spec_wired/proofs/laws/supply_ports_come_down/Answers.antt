use Rattle.lp_spec_wired.proofs.Supplies.{ports-come-down}
use Rattle.lp_spec_wired.proofs.laws.supply_ports_come_down.Goals as goal

pub returns : goal.returns
returns c = ports-come-down
