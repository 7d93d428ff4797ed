-- All that drives the nodes of a design, in one list (IEEE 1364-2005, port connections and continuous assignments; the order is an own rule).
use Rattle.std.specs.Prelude.{ℕ, not, List, [], ◌∷◌, ◌++◌, map, filter, Option, Some, None, option_and_then, if◌then◌else◌, unwrap_or, flat_map}
use Rattle.lp_model.specs.declared.graph.EdgeKind.{EdgeKind}
use Rattle.lp_model.specs.declared.graph.EdgeKind.TheVariants.{In, Out, Assign}
use Rattle.lp_model.specs.NetlistView.{PortView, InstanceView, AssignView, ModuleView}
use Rattle.lp_model.specs.LibraryView.{PgPinView, CellView, PinView}
use Rattle.std.specs.Prelude.{is_some}
use Rattle.lp_spec_design.specs.Keys.{Path, Node, Inner, Outer, Way, PortBit, AssignBit, Source, CellPin, SwitchedPin, From, same_node}
use Rattle.lp_spec_design.specs.Netlists.{Structure, module_named, cell_named, module_at, instance_named, indices, node_of, connected, is_input}
use Rattle.lp_spec_design.specs.Graph.{pairs, some_of, numbered, is_output_pin, outside}
use Rattle.lp_spec_design.specs.Instances.{module_instances}

-- a node, and something that drives it
abbrev pub Drive : Type 0
Drive = Node × Source

-- ---- what drives the net bits of a module instance

-- a bit of an input port, from the outside of the top or from what the instance's connection has there
abbrev pub connected_drives : Path → PortView → InstanceView → ModuleView → List Drive
connected_drives [] port x inner = []
connected_drives (inst ∷ p) port x inner =
    map (λ pair. (Inner port.name pair.0 (inst ∷ p), From (PortBit (inst ∷ p) port.name pair.0) (node_of p pair.1))) (pairs (indices port.range) (connected inner.ports port.name x.connections))

abbrev pub port_drives : Structure → Path → PortView → List Drive
port_drives s [] port = map (λ i. (Inner port.name i [], From (PortBit [] port.name i) (Outer port.name i))) (indices port.range)
port_drives s (inst ∷ p) port =
    unwrap_or (option_and_then (λ outer. option_and_then (λ x. option_and_then (λ inner. Some (connected_drives (inst ∷ p) port x inner)) (module_named s x.target)) (instance_named outer inst)) (module_at s p)) []

-- the bits that are connected to an output port of a module instance
abbrev pub output_drives : Path → InstanceView → ModuleView → PortView → List Drive
output_drives p x inner port =
    map (λ pair. (node_of p pair.1, From (PortBit (x.name ∷ p) port.name pair.0) (Inner port.name pair.0 (x.name ∷ p)))) (pairs (indices port.range) (connected inner.ports port.name x.connections))

-- the bit that is connected to an output pin or a switched pin of a cell instance
abbrev pub cell_drives : Path → InstanceView → CellView → List Drive
cell_drives p x c =
    flat_map (λ (q : PinView). map (λ b. (node_of p b, CellPin p x.name q.name)) (connected [] q.name x.connections)) (filter is_output_pin c.pins)
    ++ flat_map (λ (g : PgPinView). map (λ b. (node_of p b, SwitchedPin p x.name g.name)) (connected [] g.name x.connections)) (filter (λ (g : PgPinView). is_some g.switched) c.pgs)

abbrev pub target_drives : Path → InstanceView → Option ModuleView → Option CellView → List Drive
target_drives p x (Some m) c = flat_map (output_drives p x m) (filter (λ port. not (is_input port)) m.ports)
target_drives p x None (Some c) = cell_drives p x c
target_drives p x None None = []

abbrev pub instance_drives : Structure → Path → InstanceView → List Drive
instance_drives s p x = target_drives p x (module_named s x.target) (cell_named s x.target)

-- the left bits of an assign
abbrev pub assign_drives : Path → ℕ × AssignView → List Drive
assign_drives p a = map (λ pair. (node_of p pair.1.0, From (AssignBit p a.0 pair.0) (node_of p pair.1.1))) (numbered 0 (pairs a.1.left a.1.right))

-- its input ports, then its instances by statement, then its assigns
abbrev pub drives_in : Structure → Path → Option ModuleView → List Drive
drives_in s p None = []
drives_in s p (Some m) = flat_map (port_drives s p) (filter is_input m.ports) ++ (flat_map (instance_drives s p) m.instances ++ flat_map (assign_drives p) (numbered 0 m.assigns))

-- ---- all of a design

-- the outer sides of the top's ports
abbrev pub outer_drives : Option ModuleView → List Drive
outer_drives None = []
outer_drives (Some m) = flat_map (λ port. map (λ i. (Outer port.name i, outside port.name i port)) (indices port.range)) m.ports

-- by module instance, then the outer sides
abbrev pub drives_of : Structure → List Drive
drives_of s = flat_map (λ p. drives_in s p (module_at s p)) (module_instances s) ++ outer_drives (module_at s [])

-- what drives a node, in the order of the list
abbrev pub drivers_among : Node → List Drive → List Source
drivers_among k drives = map (λ x. x.1) (filter (λ x. same_node x.0 k) drives)

-- ---- edges

-- a way with the node from which it comes and the node that it drives
pub record Edge : Type 0 where
  pub way : Way
  pub from : Node
  pub to : Node

abbrev pub edge_of : Drive → Option Edge
edge_of x = by x.1
  where
    by : Source → Option Edge
    by (From w j) = Some (record { way = w; from = j; to = x.0 })
    by _ = None

-- the ports and assigns among all drives
abbrev pub edges_of : Structure → List Edge
edges_of s = some_of edge_of (drives_of s)

-- a port's edge goes in where it drives the bit inside
abbrev pub kind_of : Edge → EdgeKind
kind_of e = by e.way
  where
    by : Way → EdgeKind
    by (PortBit p n i) = if same_node e.to (Inner n i p) then In else Out
    by (AssignBit p a k) = Assign
