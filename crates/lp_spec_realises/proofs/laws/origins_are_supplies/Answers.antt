use Rattle.lp_spec_realises.proofs.Ports.{supply_at_port}
use Rattle.lp_spec_realises.proofs.laws.origins_are_supplies.Goals as goal

pub returns : goal.returns
returns c p m at netlist o is = supply_at_port p m netlist at o is
