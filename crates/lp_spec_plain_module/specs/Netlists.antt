-- The netlist of a flat design with its supplies: two ports, to which every power and ground pin is joined (own rule).
use Rattle.std.specs.Prelude.{ℕ, Bool, true, not, ◌||◌, List, [], ◌∷◌, ◌++◌, map, Option, Some, None, if◌then◌else◌, bytes_eq, codes}
use Rattle.lp_model.specs.declared.netlist.Direction.TheVariants.{Input}
use Rattle.lp_model.specs.NetlistView.{NetBit, PortView, ConnectionView, ConnectionsView, ByName, ByPosition, InstanceView, ModuleView}
use Rattle.lp_model.specs.LibraryView.{PgPinView, CellView}
use Rattle.lp_spec_design.specs.Keys.{Name, Node, Inner, Outer, Fixed}
use Rattle.lp_spec_design.specs.Netlists.{first}
use Rattle.lp_spec_pins.specs.Pins.{SupplyNodes, Surroundings, Powered, is_power}
use Rattle.lp_spec_plain_module.specs.Designs.{Flat}

-- the port that carries a supply port of the intent
abbrev pub supply_port : Name → Name
supply_port n = codes "lp_v_" ++ n

abbrev pub power_port : Flat → Name
power_port f = supply_port f.power

abbrev pub ground_port : Flat → Name
ground_port f = supply_port f.gnd

abbrev pub supply_input : Name → PortView
supply_input n = record { name = n; direction = Input; range = None }

-- a power pin is joined to the power port, a ground pin to the ground port
abbrev pub port_of_pin : Flat → PgPinView → Name
port_of_pin f g = if is_power g.kind then power_port f else ground_port f

abbrev pub joined : Flat → PgPinView → ConnectionView
joined f g = record { port = g.name; bits = NetBit (port_of_pin f g) ∷ [] }

abbrev pub joins_of : Flat → Option CellView → List ConnectionView
joins_of f None = []
joins_of f (Some c) = map (joined f) c.pgs

abbrev pub with_joins : List ConnectionView → ConnectionsView → ConnectionsView
with_joins more (ByName cs) = ByName (cs ++ more)
with_joins more (ByPosition values) = ByPosition values

abbrev pub cell_of : Flat → Name → Option CellView
cell_of f n = first (λ (c : CellView). bytes_eq c.name n) f.cells

abbrev pub powered_instance : Flat → InstanceView → InstanceView
powered_instance f x = record { name = x.name; target = x.target; connections = with_joins (joins_of f (cell_of f x.target)) x.connections }

-- the module with the two ports behind its own, and each instance joined to them
abbrev pub powered : Flat → ModuleView
powered f = record {
  name = f.source.name;
  ports = f.source.ports ++ supply_input (power_port f) ∷ supply_input (ground_port f) ∷ [];
  nets = f.source.nets;
  instances = map (powered_instance f) f.source.instances;
  assigns = f.source.assigns;
}

abbrev pub is_supply : Flat → Name → Bool
is_supply f n = bytes_eq (power_port f) n || bytes_eq (ground_port f) n

-- what drives and reads the other ports is supplied by the two
abbrev pub supply_nodes : Flat → SupplyNodes
supply_nodes f = record { power = Outer (power_port f) None; gnd = Outer (ground_port f) None }

abbrev pub surroundings : Flat → Surroundings
surroundings f = record { is_supply = is_supply f; driver = λ n. supply_nodes f; receiver = λ n. supply_nodes f; margin = f.margin }

abbrev pub netlist_of : Flat → Powered
netlist_of f = record { structure = record { modules = powered f ∷ []; cells = f.cells }; around = surroundings f }

-- the origin of a supply port of the netlist
abbrev pub origin_of : Flat → Name → ℕ
origin_of f n = if bytes_eq (power_port f) n then 0 else 1

-- the nodes of the source: all but those of the two ports
abbrev pub is_own : Flat → Node → Bool
is_own f (Inner n i p) = not (is_supply f n)
is_own f (Outer n i) = not (is_supply f n)
is_own f (Fixed b) = true
