-- When the tables of an edited netlist are sound, when an edit may be made, and what it leaves as it was (own rule).
use Rattle.std.specs.Prelude.{◌||◌, ◌≡◌, ◌<◌, ◌≤◌, ℕ, ◌+◌, ◌==◌, nat_lt, Bool, true, false, ◌&&◌, [], map, length, Option, Some, slice_get, slice_index_or}
use Rattle.std.specs.List.{list_all}
use Rattle.lp_model.specs.declared.graph.Edge.{Edge as EdgeRow}
use Rattle.lp_model.specs.declared.graph.EdgeFrom.TheVariants.{Node as FromNode, Const as FromConst}
use Rattle.lp_model.specs.declared.graph.Inst.{Inst}
use Rattle.lp_model.specs.declared.graph.Leaf.{Leaf}
use Rattle.lp_model.specs.declared.graph.PinNet.{PinNet}
use Rattle.lp_model.specs.declared.graph.PinNet.TheVariants.{Unconnected, Node as PinNode}
use Rattle.lp_model.specs.declared.graph.Source.{Source as SourceRow}
use Rattle.lp_model.specs.declared.graph.Source.TheVariants.{Nothing, Leaf as OfLeaf, Edge as OfEdge}
use Rattle.lp_spec_design.specs.Graph.{numbered}
use Rattle.lp_spec_bridge.specs.Tables.{is_behind}
use Rattle.lp_model.specs.declared.graph.NodeName.TheVariants.{Added}
use Rattle.lp_model.specs.declared.graph.WireKind.TheVariants.{Supply}
use Rattle.lp_spec_edits.specs.Edits.{head_at, name_at}
use Rattle.lp_spec_edits.specs.Net.{Signal, CellPins, Net, cell_pins, pin_count, cell_pins_at, source_at, inst_at, edge_at, pin_at, drives, before, is_met, parent_at}

-- ---- sound tables

-- an edge comes from a node or a constant and leads to a node, of so many
pub record IsEdge (count : ℕ) (x : EdgeRow) : Type 0 where
  pub begins : (j : ℕ) → x.from ≡ FromNode (record { 0 = j }) → j < count
  pub leads : x.to.0 < count

-- what drives nodes, the edges, and what pins are joined to agree at both ends of each connection, and numbers of nodes are in range
pub record AreWires (source : ℕ → SourceRow) (edge : ℕ → Option EdgeRow) (pin : ℕ → ℕ → PinNet) (driving : ℕ → ℕ → Bool) (count : ℕ) : Type 0 where
  pub by_pin : (k l q : ℕ) → source k ≡ OfLeaf q (record { 0 = l }) → pin l q ≡ PinNode (record { 0 = k })
  pub by_edge : (k e : ℕ) → source k ≡ OfEdge (record { 0 = e }) → (x : EdgeRow) × (edge e ≡ Some x) × (x.to.0 ≡ k)
  pub leads : (e : ℕ) (x : EdgeRow) → edge e ≡ Some x → source x.to.0 ≡ OfEdge (record { 0 = e })
  pub outputs : (l q k : ℕ) → driving l q ≡ true → pin l q ≡ PinNode (record { 0 = k }) → source k ≡ OfLeaf q (record { 0 = l })
  pub inputs : (k l q : ℕ) → source k ≡ OfLeaf q (record { 0 = l }) → driving l q ≡ true
  pub pins : (l q k : ℕ) → pin l q ≡ PinNode (record { 0 = k }) → k < count
  pub edges : (e : ℕ) (x : EdgeRow) → edge e ≡ Some x → IsEdge count x

-- ways end: a rank falls along each edge, by the node before each node
pub record HasEnds (back : ℕ → Option ℕ) : Type 0 where
  pub rank : ℕ → ℕ
  pub falls : (k j : ℕ) → back k ≡ Some j → rank j < rank k

-- the wires agree, instances are in range, and no node is met again on its way back
pub record IsSound (n : Net) : Type 0 where
  pub wires : AreWires (source_at n) (edge_at n) (pin_at n) (drives n) (length n.nodes)
  pub ends : HasEnds (before n)
  pub leaves : list_all (λ (x : Leaf). nat_lt x.inst.0 (length n.instances)) n.leaves ≡ true
  pub instances : list_all (λ (x : ℕ × Inst). is_behind x.0 x.1.parent) (numbered 0 n.instances) ≡ true
  pub rows : length n.rows ≡ length n.leaves

-- ---- what an edit leaves

-- other entries than these are as before: nodes by what drives them, edges, pins
pub record Keeps (nodes : ℕ → Bool) (edges : ℕ → Bool) (pins : ℕ → ℕ → Bool) (n m : Net) : Type 0 where
  pub sources : (k : ℕ) → nodes k ≡ false → source_at m k ≡ source_at n k
  pub ways : (e : ℕ) → edges e ≡ false → edge_at m e ≡ edge_at n e
  pub joins : (l q : ℕ) → pins l q ≡ false → pin_at m l q ≡ pin_at n l q

abbrev pub no_entry : ℕ → Bool
no_entry k = false

abbrev pub no_pin : ℕ → ℕ → Bool
no_pin l q = false

abbrev pub is_pin : ℕ → ℕ → ℕ → ℕ → Bool
is_pin l q m r = (m == l) && (r == q)

-- an edit leaves a sound netlist, in which nodes, edges and cell instances keep their numbers
pub record IsEdited (nodes : ℕ → Bool) (edges : ℕ → Bool) (pins : ℕ → ℕ → Bool) (n m : Net) : Type 0 where
  pub sound : IsSound m
  pub keeps : Keeps nodes edges pins n m
  pub count : length n.nodes ≤ length m.nodes
  pub ways : length n.edges ≤ length m.edges
  pub leaves : length n.leaves ≤ length m.leaves

-- ---- when an edit may be made

-- a node that nothing drives
pub record IsOpen (n : Net) (k : ℕ) : Type 0 where
  pub there : k < length n.nodes
  pub open_ : source_at n k ≡ Nothing

pub record CanConnect (n : Net) (l q k : ℕ) : Type 0 where
  pub leaf : l < length n.leaves
  pub pin : q < length (slice_index_or n.rows l [])
  pub node : k < length n.nodes
  pub instance : slice_index_or (map (λ (x : Leaf). x.inst.0) n.leaves) l 0 ≡ inst_at n k
  pub free : pin_at n l q ≡ Unconnected
  pub source : drives n l q ≡ true → source_at n k ≡ Nothing

pub record CanAddCell (n : Net) (i c : ℕ) : Type 0 where
  pub instance : i < length n.instances
  pub cell : c < length n.cells
  pub leaves : 0 < n.room.leaves
  pub pins : pin_count (cell_pins n.cells c) ≤ n.room.pins

pub record CanAddWire (n : Net) (i : ℕ) : Type 0 where
  pub instance : i < length n.instances
  pub room : 0 < n.room.nodes

-- the top has no such port yet
pub record CanAddTopPort (n : Net) (name : ℕ) : Type 0 where
  pub nodes : 0 < n.room.nodes
  pub ports : 0 < n.room.ports
  pub apart : (k : ℕ) → name_at n k ≡ Added (Supply (record { 0 = name })) → ⊥

-- the second node is not met on the way back from the first
pub record CanAssign (n : Net) (from to : ℕ) : Type 0 where
  pub begins : from < length n.nodes
  pub leads : IsOpen n to
  pub instance : inst_at n from ≡ inst_at n to
  pub apart : (steps : ℕ) → is_met n to steps from ≡ false

pub record CanPunch (n : Net) (i outer : ℕ) : Type 0 where
  pub instance : parent_at n i ≡ Some (inst_at n outer)
  pub node : outer < length n.nodes
  pub nodes : 0 < n.room.nodes
  pub ports : 0 < n.room.ports

-- ---- gaps

-- an output or an edge drives a node
abbrev pub is_driven : SourceRow → Bool
is_driven (OfLeaf q l) = true
is_driven (OfEdge e) = true
is_driven _ = false

-- the edge, and the pin, that drives a node
abbrev pub is_its_edge : SourceRow → ℕ → Bool
is_its_edge (OfEdge e) a = a == e.0
is_its_edge _ a = false

abbrev pub is_its_pin : SourceRow → ℕ → ℕ → Bool
is_its_pin (OfLeaf q l) m r = is_pin l.0 q m r
is_its_pin _ m r = false

-- behind the edge, what was put there before is closed by a cell
pub record CanSplitBehind (n : Net) (e : ℕ) : Type 0 where
  pub edge : e < length n.heads
  pub head : head_at n e < length n.nodes
  pub driven : is_driven (source_at n (head_at n e)) ≡ true
  pub room : 0 < n.room.nodes

-- before an edge that comes from a node; that node is the source's own, or what was put there before is closed by a cell
pub record CanSplitFrom (n : Net) (e j : ℕ) : Type 0 where
  pub row : EdgeRow
  pub edge : edge_at n e ≡ Some row
  pub comes : row.from ≡ FromNode (record { 0 = j })
  pub driven : (nat_lt j n.kept || is_driven (source_at n j)) ≡ true
  pub room : 0 < n.room.nodes

-- before an edge that comes from a constant
pub record CanLead (n : Net) (e : ℕ) (b : Bool) : Type 0 where
  pub row : EdgeRow
  pub edge : edge_at n e ≡ Some row
  pub comes : row.from ≡ FromConst b
  pub room : 1 < n.room.nodes

-- ---- another cell

-- no two signal pins of a cell have one name
abbrev pub HasOwnNames : CellPins → Type 0
HasOwnNames c = (i j : ℕ) (x y : Signal) → slice_get c.signals i ≡ Some x → slice_get c.signals j ≡ Some y → x.name ≡ y.name → i ≡ j

-- a cell has a signal pin of a name, which it drives or reads as another one does
pub record HasTwin (c : CellPins) (x : Signal) : Type 0 where
  pub place : ℕ
  pub twin : Signal
  pub there : slice_get c.signals place ≡ Some twin
  pub name : twin.name ≡ x.name
  pub drives : twin.drives ≡ x.drives

-- the new cell has each signal pin of the old one, and the power and ground pins are open yet
pub record CanSwap (n : Net) (l c : ℕ) : Type 0 where
  pub leaf : l < length n.leaves
  pub cell : c < length n.cells
  pub old : HasOwnNames (cell_pins_at n l)
  pub new : HasOwnNames (cell_pins n.cells c)
  pub twins : (q : ℕ) (x : Signal) → slice_get (cell_pins_at n l).signals q ≡ Some x → HasTwin (cell_pins n.cells c) x
  pub open_ : (q : ℕ) → length (cell_pins_at n l).signals ≤ q → pin_at n l q ≡ Unconnected
  pub room : pin_count (cell_pins n.cells c) ≤ pin_count (cell_pins_at n l) + n.room.pins

-- a cell instance drives the node
abbrev pub is_of_leaf : ℕ → SourceRow → Bool
is_of_leaf l (OfLeaf q m) = m.0 == l
is_of_leaf l _ = false

-- each pin that a cell has by the name of one of the old cell is joined as that one was, and drives what that one drove; all others are open
pub record IsSwapped (n m : Net) (l : ℕ) (old new : CellPins) : Type 0 where
  pub edited : IsEdited (λ k. is_of_leaf l (source_at n k)) no_entry (λ a q. a == l) n m
  pub joins : (q r : ℕ) (x y : Signal) → slice_get old.signals q ≡ Some x → slice_get new.signals r ≡ Some y → y.name ≡ x.name → pin_at m l r ≡ pin_at n l q
  pub sources :
      (q r k : ℕ) (x y : Signal) → slice_get old.signals q ≡ Some x → slice_get new.signals r ≡ Some y → y.name ≡ x.name
      → source_at n k ≡ OfLeaf q (record { 0 = l }) → source_at m k ≡ OfLeaf r (record { 0 = l })
  pub fresh : (r : ℕ) (y : Signal) → slice_get new.signals r ≡ Some y → ((q : ℕ) (x : Signal) → slice_get old.signals q ≡ Some x → y.name ≡ x.name → ⊥) → pin_at m l r ≡ Unconnected
  pub supplies : (q : ℕ) → length new.signals ≤ q → pin_at m l q ≡ Unconnected
