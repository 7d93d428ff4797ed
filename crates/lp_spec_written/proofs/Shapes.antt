-- Short words for the netlists that are compared.
use Rattle.std.specs.Prelude.{List, None}
use Rattle.lp_model.specs.declared.netlist.Direction.TheVariants as directions
use Rattle.lp_model.specs.NetlistView.{PortView, ConnectionView, ByName, InstanceView}
use Rattle.lp_spec_design.specs.Keys.{Name}

abbrev pub input : Name → PortView
input n = record { name = n; direction = directions.Input; range = None }

abbrev pub output : Name → PortView
output n = record { name = n; direction = directions.Output; range = None }

abbrev pub instance : Name → Name → List ConnectionView → InstanceView
instance target n connections = record { name = n; target = target; connections = ByName connections }
