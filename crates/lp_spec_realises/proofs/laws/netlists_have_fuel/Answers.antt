use Rattle.lp_spec_realises.proofs.Fuels.{has_nodes, has_fuel}
use Rattle.lp_spec_realises.proofs.laws.netlists_have_fuel.Goals as goal

pub returns : goal.returns
returns c p m netlist = (has_nodes p m netlist, has_fuel p m netlist)
