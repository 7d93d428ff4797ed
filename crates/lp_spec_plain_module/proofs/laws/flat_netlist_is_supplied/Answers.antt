use Rattle.lp_spec_plain.proofs.Supplied.{supplied}
use Rattle.lp_spec_plain_module.specs.Designs.{design_of}
use Rattle.lp_spec_plain_module.specs.Netlists.{power_port, ground_port, netlist_of, is_own}
use Rattle.lp_spec_plain_module.proofs.Carried.{carries}
use Rattle.lp_spec_plain_module.proofs.laws.flat_netlist_is_supplied.Goals as goal

pub returns : goal.returns
returns c f flat = supplied (design_of f) (netlist_of f) (is_own f) (power_port f) (ground_port f) (carries f flat)
