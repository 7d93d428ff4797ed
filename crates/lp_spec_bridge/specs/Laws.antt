-- The statements of the laws that join numbers to paths (own rule).
use Rattle.std.specs.Prelude.{◌≡◌, ◌<◌, ◌==◌, ℕ, true, nat_lt, List, map, filter, flat_map, length, Option, Some, slice_get}
use Rattle.std.specs.List.{list_any, list_all}
use Rattle.lp_model.specs.declared.graph.Leaf.{Leaf}
use Rattle.lp_model.specs.declared.graph.EdgeFrom.{EdgeFrom}
use Rattle.lp_spec_design.specs.Keys.{Path, Node, same_node}
use Rattle.lp_spec_design.specs.Netlists.{Structure, module_at, cell_at, node_of}
use Rattle.lp_spec_design.specs.Intents.{Intent}
use Rattle.lp_spec_design.specs.Domains.{listed, or_else, domain_of}
use Rattle.lp_model.specs.NetlistView.{BitView, ModuleView}
use Rattle.lp_spec_bridge.specs.Names.{HasNamesApart, has_names_apart}
use Rattle.lp_spec_bridge.specs.Templates.{IsResolved, at_start, start_of}
use Rattle.lp_spec_bridge.specs.Inherited.{inherited}
use Rattle.lp_spec_bridge.specs.Elaborates.{Elaborates}
use Rattle.lp_spec_design.specs.Graph.{numbered, sources_of, source_of, pins_of, readers, readers_of, trail, beginning, wire_source, passes}
use Rattle.lp_model.specs.declared.graph.Node.{Node as NodeRow}
use Rattle.lp_spec_design.specs.Instances.{Placed, module_instances}
use Rattle.lp_spec_design.specs.Nodes.{nodes_of, is_on_its_way, has_wire_loop}
use Rattle.lp_spec_design.specs.Winners.{IsIn}
use Rattle.lp_spec_bridge.specs.Driven.{JoinsSingleBits, joins_single_bits}
use Rattle.lp_spec_bridge.specs.Edges.{drives_of, drivers_among}
use Rattle.lp_spec_bridge.specs.Tables.{Tables, has_node}
use Rattle.lp_spec_bridge.specs.Noted.{DriveRow, noted_at, row_key, drive_key}
use Rattle.lp_spec_bridge.specs.Readers.{leaf_readers, reader_key, reader_with_node, readers_by, readers_behind}
use Rattle.lp_spec_bridge.specs.Kept.{AreDrives, NotesSources, AllStand, IsKept}
use Rattle.lp_spec_bridge.specs.Named.{IsNamed}
use Rattle.lp_spec_bridge.specs.Inputs.{inputs_by, input_key}
use Rattle.lp_spec_bridge.specs.Keyed.{Keyed, IsApart, AreKeys, keys_of, node_at, way_at, leaf_at}
use Rattle.lp_spec_bridge.specs.Represents.{Represents, from_key, source_key, cell_of, row_of, pin_key, nodes_at_pins}
use Rattle.lp_spec_bridge.specs.Walks.{trail_by, end_by, wire_source_by, passes_by, is_on_its_way_by, is_looped_by, has_wire_loop_by, step_key}

-- a way back by number is the one by paths
abbrev pub TrailsByNumber : Type 0
TrailsByNumber = (s : Structure) (ks : Keyed) (t : Tables) → Represents s ks t → (fuel : ℕ) (k : EdgeFrom) → has_node t k ≡ true → map (step_key ks) (trail_by t fuel k) ≡ trail s fuel (from_key ks k)

-- a way back by number begins where the one by paths does
abbrev pub EndsByNumber : Type 0
EndsByNumber = (s : Structure) (ks : Keyed) (t : Tables) → Represents s ks t → (fuel : ℕ) (k : EdgeFrom) → has_node t k ≡ true → from_key ks (end_by t fuel k) ≡ beginning (from_key ks k) (trail s fuel (from_key ks k))

-- what drives a node in the end
abbrev pub WireSourcesByNumber : Type 0
WireSourcesByNumber = (s : Structure) (ks : Keyed) (t : Tables) → Represents s ks t → (fuel : ℕ) (k : EdgeFrom) → has_node t k ≡ true → source_key s ks t (wire_source_by t fuel k) ≡ wire_source s fuel (from_key ks k)

-- an edge leads to a node where its way is on the node's way back
abbrev pub PassesByNumber : Type 0
PassesByNumber = (s : Structure) (ks : Keyed) (t : Tables) → Represents s ks t → AreKeys ks → (fuel e : ℕ) (k : EdgeFrom) → e < length t.edges → has_node t k ≡ true → passes s fuel (way_at ks e) (from_key ks k) ≡ passes_by t fuel e k

-- a node lies on its own way back
abbrev pub LoopsByNumber : Type 0
LoopsByNumber = (s : Structure) (ks : Keyed) (t : Tables) → Represents s ks t → AreKeys ks → (fuel k : ℕ) (from : EdgeFrom) → k < length t.nodes → has_node t from ≡ true → list_any (λ step. same_node step.1 (node_at ks k)) (trail s fuel (from_key ks from)) ≡ is_on_its_way_by t fuel k from

-- the cell of a cell instance
abbrev pub CellsByNumber : Type 0
CellsByNumber = (s : Structure) (ks : Keyed) (t : Tables) → Represents s ks t → (k : ℕ) → k < length t.leaves → cell_of s t k ≡ cell_at s (leaf_at ks k).path (leaf_at ks k).instance

-- the nodes at its pins
abbrev pub PinsByNumber : Type 0
PinsByNumber = (s : Structure) (ks : Keyed) (t : Tables) → Represents s ks t → (k : ℕ) (l : Leaf) → slice_get t.leaves k ≡ Some l → map (pin_key ks) (row_of s t l) ≡ nodes_at_pins s (leaf_at ks k) (cell_at s (leaf_at ks k).path (leaf_at ks k).instance)

-- what drives a node is what the list of all drives has for it, in the order in which sources are looked for
abbrev pub DriversListed : Type 0
DriversListed = (s : Structure) → JoinsSingleBits s → IsApart (module_instances s) → (k : Node) → IsIn k (nodes_of s) → drivers_among k (drives_of s) ≡ sources_of s k

-- where names are apart, no key of a design stands twice
abbrev pub KeysApart : Type 0
KeysApart = (s : Structure) → HasNamesApart s → AreKeys (keys_of s)

-- where rows by number are the drives of a design, those of a node are all its sources, so that two of them are two drivers
abbrev pub AllNoted : Type 0
AllNoted = (s : Structure) (t : Tables) (rows : List DriveRow) → HasNamesApart s → JoinsSingleBits s → map (row_key s (keys_of s) t) rows ≡ map drive_key (drives_of s) → list_all (λ (x : DriveRow). nat_lt x.0 (length (nodes_of s))) rows ≡ true
    → (k : ℕ) → k < length (nodes_of s) → map (λ (x : DriveRow). source_key s (keys_of s) t x.1) (filter (λ (x : DriveRow). x.0 == k) rows) ≡ map (λ x. Some x) (sources_of s (node_at (keys_of s) k))

-- and the first one is its source
abbrev pub FirstNoted : Type 0
FirstNoted = (s : Structure) (t : Tables) (rows : List DriveRow) → HasNamesApart s → JoinsSingleBits s → map (row_key s (keys_of s) t) rows ≡ map drive_key (drives_of s) → list_all (λ (x : DriveRow). nat_lt x.0 (length (nodes_of s))) rows ≡ true
    → (k : ℕ) → k < length (nodes_of s) → source_key s (keys_of s) t (noted_at rows k) ≡ source_of s (node_at (keys_of s) k)

-- places of a module's bits, resolved once, are at the first node of any instance of it the bits by paths
abbrev pub TemplatesServe : Type 0
TemplatesServe = (s : Structure) (m : ModuleView) (bits : List BitView) (places : List EdgeFrom) → IsResolved m bits places
    → (k : ℕ) (p : Path) → slice_get (module_instances s) k ≡ Some p → module_at s p ≡ Some m → map (λ f. from_key (keys_of s) (at_start (start_of s k) f)) places ≡ map (node_of p) bits

-- one pass over the instances gives their domains, from the lists that name them
abbrev pub DomainsInherit : Type 0
DomainsInherit = (texts : List (List ℕ)) (s : Structure) (t : Tables) → Elaborates texts s t → (i : Intent) → inherited (λ (d : Option ℕ). d) or_else (map (listed i) (module_instances s)) t.instances ≡ map (domain_of i) (module_instances s)

-- names that pass the test are apart
abbrev pub NamesTested : Type 0
NamesTested = (s : Structure) → has_names_apart s ≡ true → HasNamesApart s

-- pins that pass the test have one bit at most
abbrev pub SingleBitsTested : Type 0
SingleBitsTested = (s : Structure) → joins_single_bits s ≡ true → JoinsSingleBits s

-- the connected input pins of a cell instance, each with its node
abbrev pub InputsByNumber : Type 0
InputsByNumber = (s : Structure) (ks : Keyed) (t : Tables) → Represents s ks t → (k : ℕ) (l : Leaf) → slice_get t.leaves k ≡ Some l → map (input_key ks (leaf_at ks k) (cell_at s (leaf_at ks k).path (leaf_at ks k).instance)) (inputs_by s t l) ≡ pins_of s (leaf_at ks k)

-- a node of an elaborated netlist lies on its own way back
abbrev pub OwnLoopsByNumber : Type 0
OwnLoopsByNumber = (texts : List (List ℕ)) (s : Structure) (t : Tables) → Elaborates texts s t → (k : ℕ) → k < length t.nodes → is_on_its_way s (node_at (keys_of s) k) ≡ is_looped_by t k

-- some net bit does
abbrev pub WireLoopsByNumber : Type 0
WireLoopsByNumber = (texts : List (List ℕ)) (s : Structure) (t : Tables) → Elaborates texts s t → has_wire_loop s ≡ has_wire_loop_by t

-- the input pins of all cell instances as readers, each with its node
abbrev pub LeavesRead : Type 0
LeavesRead = (s : Structure) (ks : Keyed) (t : Tables) → Represents s ks t → map (reader_with_node s ks t) (flat_map (leaf_readers s t) (numbered 0 t.leaves)) ≡ flat_map (pins_of s) ks.leaves

-- all readers, each with its node
abbrev pub ReadersByNumber : Type 0
ReadersByNumber = (texts : List (List ℕ)) (s : Structure) (t : Tables) → HasNamesApart s → Elaborates texts s t → map (reader_with_node s (keys_of s) t) (readers_by s t) ≡ readers s

-- the readers to which an edge leads
abbrev pub ReadersBehind : Type 0
ReadersBehind = (texts : List (List ℕ)) (s : Structure) (t : Tables) → HasNamesApart s → Elaborates texts s t → (fuel e : ℕ) → e < length t.edges → map (reader_key s (keys_of s) t) (readers_behind s t fuel e) ≡ readers_of s fuel (way_at (keys_of s) e)

-- where each node has the first row that was noted for it, its source by number is its source by path
abbrev pub SourcesKept : Type 0
SourcesKept = (s : Structure) (t : Tables) (rows : List DriveRow) → HasNamesApart s → JoinsSingleBits s → AreDrives s t rows → NotesSources s t rows → map (λ (x : NodeRow). source_key s (keys_of s) t x.source) t.nodes ≡ map (source_of s) (nodes_of s)

-- rows that were resolved once for a module give cell instances their cells
abbrev pub CellsKept : Type 0
CellsKept = (s : Structure) (t : Tables) (ls : List Leaf) (keyed : List Placed) → AllStand s t ls keyed → map (λ (l : Leaf). slice_get s.cells l.cell.0) ls ≡ map (λ (a : Placed). cell_at s a.path a.instance) keyed

-- and the nodes at their pins
abbrev pub PinsKept : Type 0
PinsKept = (s : Structure) (t : Tables) (ls : List Leaf) (keyed : List Placed) → AllStand s t ls keyed → map (λ (l : Leaf). map (pin_key (keys_of s)) (row_of s t l)) ls ≡ map (λ (a : Placed). nodes_at_pins s a (cell_at s a.path a.instance)) keyed

-- tables that keep all of this represent the design
abbrev pub KeptRepresents : Type 0
KeptRepresents = (s : Structure) (t : Tables) → HasNamesApart s → JoinsSingleBits s → IsKept s t → Represents s (keys_of s) t

-- with the names of each module's bits, instance by instance, they are the elaborated netlist
abbrev pub KeptElaborates : Type 0
KeptElaborates = (texts : List (List ℕ)) (s : Structure) (t : Tables) → HasNamesApart s → JoinsSingleBits s → IsKept s t → IsNamed texts s t → Elaborates texts s t
