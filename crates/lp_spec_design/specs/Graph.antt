-- What drives each net bit of a design (IEEE 1364-2005, port connections and continuous assignments).
use Rattle.std.specs.Prelude.{ℕ, zero, suc, ◌+◌, Bool, true, false, not, ◌&&◌, List, [], ◌∷◌, ◌++◌, map, filter, Option, Some, None, is_some, option_and_then, if◌then◌else◌, bytes_eq, unwrap_or, flat_map}
use Rattle.std.specs.List.{list_any}
use Rattle.lp_model.specs.declared.netlist.Direction.{Direction}
use Rattle.lp_model.specs.declared.netlist.Direction.TheVariants.{Input, Output}
use Rattle.lp_model.specs.NetlistView.{BitView, PortView, ConnectionsView, InstanceView, AssignView, ModuleView}
use Rattle.lp_model.specs.LibraryView.{PgPinView, CellView, PinView}
use Rattle.lp_spec_design.specs.Keys.{Name, Path, Node, Inner, Outer, Fixed, Way, PortBit, AssignBit, Source, CellPin, SwitchedPin, Environment, From, same_node, same_way, same_index}
use Rattle.lp_spec_design.specs.Netlists.{Structure, first, module_named, cell_named, module_at, cell_at, instance_named, indices, node_of, connected, is_input}
use Rattle.lp_spec_design.specs.Instances.{Placed, cell_instances}

-- each bit of a port with what it is connected to, in order from the left; what is left over on one side is not joined
abbrev pub pairs : {A B : Type 0} → List A → List B → List (A × B)
pairs [] ys = []
pairs (x ∷ xs) [] = []
pairs (x ∷ xs) (y ∷ ys) = (x, y) ∷ pairs xs ys

-- a value for each that has one
abbrev pub and_more : {B : Type 0} → Option B → List B → List B
and_more None rest = rest
and_more (Some y) rest = y ∷ rest

abbrev pub some_of : {A B : Type 0} → (A → Option B) → List A → List B
some_of f [] = []
some_of f (x ∷ xs) = and_more (f x) (some_of f xs)

abbrev pub when : {A : Type 0} → Bool → A → Option A
when b x = if b then Some x else None

-- ---- what drives a net bit of a module, from its own ports

-- from what an instance's connection has at a bit of a port
abbrev pub joined_outside : Path → Name → Name → Option ℕ → PortView → InstanceView → ModuleView → List Source
joined_outside p inst n i port x inner =
    some_of (λ pair. when (same_index pair.0 i) (From (PortBit (inst ∷ p) n i) (node_of p pair.1))) (pairs (indices port.range) (connected inner.ports n x.connections))

-- the way into a bit that the port has, from the outside of the top or from what the instance's connection has there
abbrev pub from_port : Structure → Path → Name → Option ℕ → PortView → List Source
from_port s [] n i port = if list_any (same_index i) (indices port.range) then From (PortBit [] n i) (Outer n i) ∷ [] else []
from_port s (inst ∷ p) n i port = unwrap_or (option_and_then (λ outer. option_and_then (λ x. option_and_then (λ inner. Some (joined_outside p inst n i port x inner)) (module_named s x.target)) (first (λ x. bytes_eq x.name inst) outer.instances)) (module_at s p)) []

abbrev pub ports_in : Structure → Path → Name → Option ℕ → ModuleView → List Source
ports_in s p n i m = flat_map (from_port s p n i) (filter (λ port. bytes_eq port.name n && is_input port) m.ports)

-- ---- from the instances of its module

-- from the bits of an output port to what the instance's connection has there
abbrev pub joined_inside : Path → Name → Option ℕ → InstanceView → ModuleView → PortView → List Source
joined_inside p n i x inner port =
    some_of (λ pair. when (same_node (node_of p pair.1) (Inner n i p)) (From (PortBit (x.name ∷ p) port.name pair.0) (Inner port.name pair.0 (x.name ∷ p)))) (pairs (indices port.range) (connected inner.ports port.name x.connections))

-- an output port of a module instance
abbrev pub from_instance : Path → Name → Option ℕ → InstanceView → ModuleView → List Source
from_instance p n i x inner = flat_map (joined_inside p n i x inner) (filter (λ port. not (is_input port)) inner.ports)

abbrev pub is_output_pin : PinView → Bool
is_output_pin q = by q.direction
  where
    by : Direction → Bool
    by Input = false
    by Output = true

-- a bit that the connection of a pin has
abbrev pub touches : Path → Name → Option ℕ → List BitView → Bool
touches p n i bits = list_any (λ b. same_node (node_of p b) (Inner n i p)) bits

-- an output pin or a switched pin of a cell instance
abbrev pub from_cell : Path → Name → Option ℕ → InstanceView → CellView → List Source
from_cell p n i x c =
    some_of (λ q. when (is_output_pin q && touches p n i (connected [] q.name x.connections)) (CellPin p x.name q.name)) c.pins
    ++ some_of (λ (g : PgPinView). when (is_some g.switched && touches p n i (connected [] g.name x.connections)) (SwitchedPin p x.name g.name)) c.pgs

-- an instance is one of a module, else of a cell
abbrev pub from_target : Path → Name → Option ℕ → InstanceView → Option ModuleView → Option CellView → List Source
from_target p n i x (Some m) c = from_instance p n i x m
from_target p n i x None (Some c) = from_cell p n i x c
from_target p n i x None None = []

abbrev pub from_one : Structure → Path → Name → Option ℕ → InstanceView → List Source
from_one s p n i x = from_target p n i x (module_named s x.target) (cell_named s x.target)

-- ---- from its assigns

abbrev pub numbered : {A : Type 0} → ℕ → List A → List (ℕ × A)
numbered k [] = []
numbered k (x ∷ xs) = (k, x) ∷ numbered (k + 1) xs

abbrev pub from_assign : Path → Name → Option ℕ → ℕ × AssignView → List Source
from_assign p n i a = some_of (λ pair. when (same_node (node_of p pair.1.0) (Inner n i p)) (From (AssignBit p a.0 pair.0) (node_of p pair.1.1))) (numbered 0 (pairs a.1.left a.1.right))

-- ---- all sources of a node

abbrev pub in_module : Structure → Path → Name → Option ℕ → ModuleView → List Source
in_module s p n i m = ports_in s p n i m ++ (flat_map (from_one s p n i) m.instances ++ flat_map (from_assign p n i) (numbered 0 m.assigns))

-- the outer side of a top input is driven by the environment, that of an output by the port
abbrev pub outside : Name → Option ℕ → PortView → Source
outside n i port = if is_input port then Environment else From (PortBit [] n i) (Inner n i [])

abbrev pub sources_of : Structure → Node → List Source
sources_of s (Inner n i p) = by (module_at s p)
  where
    by : Option ModuleView → List Source
    by None = []
    by (Some m) = in_module s p n i m
sources_of s (Outer n i) = by (module_at s [])
  where
    by : Option ModuleView → List Source
    by None = []
    by (Some m) = map (outside n i) (filter (λ port. bytes_eq port.name n && list_any (same_index i) (indices port.range)) m.ports)
sources_of s (Fixed b) = []

-- the source of a node where it has one: two are refused
abbrev pub source_of : Structure → Node → Option Source
source_of s k = by (sources_of s k)
  where
    by : List Source → Option Source
    by [] = None
    by (x ∷ rest) = Some x

-- ---- the way back

abbrev pub way_in : Option Source → Option (Way × Node)
way_in (Some (From w j)) = Some (w, j)
way_in _ = None

abbrev pub going_back : (Node → List (Way × Node)) → Option (Way × Node) → List (Way × Node)
going_back more None = []
going_back more (Some step) = step ∷ more step.1

-- the ways by which a node is reached, the last first, each with the node from which it comes; the fuel is the number of nodes
abbrev pub trail : Structure → ℕ → Node → List (Way × Node)
trail s zero k = []
trail s (suc fuel) k = going_back (λ j. trail s fuel j) (way_in (source_of s k))

-- where a trail begins
abbrev pub beginning : Node → List (Way × Node) → Node
beginning k [] = k
beginning k (step ∷ steps) = beginning step.1 steps

-- what drives a node in the end: a cell output, a switched pin, the environment, or nothing (a constant or a node without source)
abbrev pub wire_source : Structure → ℕ → Node → Option Source
wire_source s fuel k = source_of s (beginning k (trail s fuel k))

-- ---- readers

-- what reads a node: an input pin of a cell instance, or a bit of a top output
pub data Reader : Type 0 where
  InputPin : Path → Name → Name → Reader
  TopOutput : Name → Option ℕ → Reader

-- the node at an input pin of a cell instance, none where the pin is open; a pin has one bit
abbrev pub pin_node : Path → Name → ConnectionsView → Option Node
pin_node p q cs = by (connected [] q cs)
  where
    by : List BitView → Option Node
    by [] = None
    by (b ∷ rest) = Some (node_of p b)

-- the input pins of a cell, each with what is connected to it in the instance
abbrev pub pins_in : Placed → Option InstanceView → Option CellView → List (Reader × Node)
pins_in a (Some x) (Some c) = some_of (λ q. option_and_then (λ k. Some (InputPin a.path a.instance q.name, k)) (pin_node a.path q.name x.connections)) (filter (λ q. not (is_output_pin q)) c.pins)
pins_in a _ _ = []

-- the input pins of a cell instance that are connected, each with its node
abbrev pub pins_of : Structure → Placed → List (Reader × Node)
pins_of s a = pins_in a (option_and_then (λ m. instance_named m a.instance) (module_at s a.path)) (cell_at s a.path a.instance)

-- the bits of the top's outputs, each with the node on the environment's side
abbrev pub top_outputs : Structure → List (Reader × Node)
top_outputs s = by (module_at s [])
  where
    by : Option ModuleView → List (Reader × Node)
    by None = []
    by (Some m) = flat_map (λ port. map (λ i. (TopOutput port.name i, Outer port.name i)) (indices port.range)) (filter (λ port. not (is_input port)) m.ports)

-- all readers, with their nodes: cell input pins by cell instance and then top outputs
abbrev pub readers : Structure → List (Reader × Node)
readers s = flat_map (pins_of s) (cell_instances s) ++ top_outputs s

-- a reader is reached by a way
abbrev pub passes : Structure → ℕ → Way → Node → Bool
passes s fuel w k = list_any (λ step. same_way step.0 w) (trail s fuel k)

-- the readers of a boundary bit: those that are found from the end of its way forwards
abbrev pub readers_of : Structure → ℕ → Way → List Reader
readers_of s fuel w = map (λ r. r.0) (filter (λ r. passes s fuel w r.1) (readers s))
