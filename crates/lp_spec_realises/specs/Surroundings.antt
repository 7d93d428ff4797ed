-- What surrounds a netlist of a project, and its events: by which supplies the top's ports are driven and read, and where the environment's values and states come in (IEEE 1801-2015 set_port_attributes, add_pst_state; own rule).
use Rattle.std.specs.Prelude.{◌≡◌, ℕ, true, List, [], ◌∷◌, map, Option, Some, None, is_some, option_and_then, unwrap_or, bytes_eq, if◌then◌else◌, slice_get}
use Rattle.std.specs.Option.{option_map_or}
use Rattle.lp_tern.specs.declared.tern.Tern.{Tern}
use Rattle.lp_tern.specs.declared.tern.Tern.TheVariants.{X}
use Rattle.lp_tern.specs.declared.supply.SupplyState.TheVariants.{Unknown}
use Rattle.lp_model.specs.LibraryView.{PgPinView}
use Rattle.lp_model.specs.NetlistView.{ModuleView}
use Rattle.lp_rows.specs.Rows.{ports, IsWithin}
use Rattle.lp_spec_design.specs.Keys.{Name, Node, Outer, Fixed, Environment}
use Rattle.lp_spec_design.specs.Netlists.{Structure, first, is_input}
use Rattle.lp_spec_design.specs.Instances.{Placed}
use Rattle.lp_spec_design.specs.Graph.{TopOutput}
use Rattle.lp_spec_design.specs.Intents.{SetNumber, SupplySet, Origin, FromPort, FromSwitch}
use Rattle.lp_spec_design.specs.Domains.{source_supply, reader_supply}
use Rattle.lp_spec_design.specs.Settled.{Event, node_at_pin}
use Rattle.lp_spec_pins.specs.Pins.{FromTop, SupplyNodes, Surroundings, Powered, PinEvent, supply_of_node}
use Rattle.lp_spec_realises.specs.Projects.{Project, network_of, port_of_origin}
use Rattle.lp_spec_realises.specs.Operators.{Placement}
use Rattle.lp_spec_realises.specs.Tops.{top_port, index_across}
use Rattle.lp_spec_realises.specs.ProjectNetlists.{netlist_of, port_origins, is_port_origin}
use Rattle.lp_spec_realises.specs.Ends.{switched_pin}

-- ---- supplies

-- the port origin whose port has this name
abbrev pub origin_of_port : Project → Name → Option ℕ
origin_of_port p n = first (λ o. bytes_eq (port_of_origin p o) n) (port_origins p)

-- what the switched pin of a cell instance is connected to
abbrev pub switched_node : Structure → Placed → Option Node
switched_node w a = option_and_then (λ (g : PgPinView). node_at_pin w a.path a.instance g.name) (switched_pin w a)

-- where an origin comes in: at its port, or at the switched pin of its switch's cell
abbrev pub node_of_origin : Project → Structure → Placement → Option Origin → ℕ → Option Node
node_of_origin p w at None o = None
node_of_origin p w at (Some FromPort) o = Some (Outer (port_of_origin p o) None)
node_of_origin p w at (Some (FromSwitch input control high)) o = switched_node w (at.switch o)

-- a constant is joined to no supply, so its state is unknown
abbrev pub supply_node : Project → Structure → Placement → ℕ → Node
supply_node p w at o = unwrap_or (node_of_origin p w at (slice_get (network_of p).origins o) o) (Fixed true)

abbrev pub nodes_of_set : Project → Structure → Placement → Option SupplySet → SupplyNodes
nodes_of_set p w at None = record { power = Fixed true; gnd = Fixed true }
nodes_of_set p w at (Some s) = record { power = supply_node p w at s.power; gnd = supply_node p w at s.gnd }

abbrev pub set_of : Project → Option SetNumber → Option SupplySet
set_of p k = option_and_then (λ j. slice_get (network_of p).sets j) k

-- a top input is driven by its driver supply, a top output read by its receiver supply; a port is a supply where it is that of an origin
abbrev pub surroundings_of : Project → Structure → Placement → Surroundings
surroundings_of p w at = record {
  is_supply = λ n. is_some (origin_of_port p n);
  driver = λ n. nodes_of_set p w at (set_of p (source_supply p.intent (Outer n None) (Some Environment)));
  receiver = λ n. nodes_of_set p w at (set_of p (reader_supply p.intent (TopOutput n None)));
  margin = p.margin;
}

-- the netlist, judged by its pins in these surroundings
abbrev pub powered_of : Project → List ModuleView → Placement → Powered
powered_of p modules at = record { structure = netlist_of p modules; around = surroundings_of p (netlist_of p modules) at }

-- each port origin is a supply, which comes in at its port
abbrev pub OriginsAreSupplies : Project → Powered → Type 0
OriginsAreSupplies p w = (o : ℕ) → is_port_origin p o ≡ true → supply_of_node w (Outer (port_of_origin p o) None) ≡ Some (FromTop (port_of_origin p o))

-- ---- events

-- the states of the port origins, as they stand after the changes of an event, are within one row of the state table
abbrev pub IsWithinRows : Project → Event → Type 0
IsWithinRows p ev = IsWithin p.supplies (map ev.supplies (ports p.supplies))

-- each event is
abbrev pub AreWithin : Project → List Event → Type 0
AreWithin p [] = Unit {0}
AreWithin p (ev ∷ events) = IsWithinRows p ev × AreWithin p events

-- the value of a bit of the source's inputs at the bit of the netlist that stands at its place; other inputs are X
abbrev pub input_across : Project → Structure → Event → Name → Option ℕ → Tern
input_across p w ev n i = option_map_or (λ port. if is_input port then ev.inputs n (index_across w p.structure n i) else X) (top_port p.structure n) X

-- the state of each port origin at its port
abbrev pub event_at_pins : Project → Structure → Event → PinEvent
event_at_pins p w ev = record {
  inputs = λ n i. input_across p w ev n i;
  supplies = λ n. option_map_or ev.supplies (origin_of_port p n) Unknown;
}

-- each port origin has its state at its port
abbrev pub OriginsComeIn : Project → Event → PinEvent → Type 0
OriginsComeIn p ev at = (o : ℕ) → is_port_origin p o ≡ true → at.supplies (port_of_origin p o) ≡ ev.supplies o

-- the same inputs, and each port origin's state at its port
abbrev pub SameEvents : Project → List ModuleView → List Event → List PinEvent → Type 0
SameEvents p modules events at_pins = at_pins ≡ map (event_at_pins p (netlist_of p modules)) events
