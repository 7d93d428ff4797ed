-- The netlist that an insertion edits: tables by number, with what was added to them and the room that is left (own rule).
use Rattle.std.specs.Prelude.{ℕ, zero, suc, ◌+◌, ◌==◌, Bool, false, ◌||◌, List, [], ◌∷◌, ◌++◌, map, length, take, drop, Option, Some, None, option_and_then, flat_map, slice_get, slice_index_or}
use Rattle.lp_model.specs.declared.counts.Counts.{Counts}
use Rattle.lp_model.specs.declared.graph.CellShape.{CellShape}
use Rattle.lp_model.specs.declared.graph.Edge.{Edge as EdgeRow}
use Rattle.lp_model.specs.declared.graph.EdgeFrom.{EdgeFrom}
use Rattle.lp_model.specs.declared.graph.EdgeFrom.TheVariants.{Node as FromNode, Const as FromConst}
use Rattle.lp_model.specs.declared.graph.Inst.{Inst}
use Rattle.lp_model.specs.declared.graph.Leaf.{Leaf}
use Rattle.lp_model.specs.declared.graph.Node.{Node as NodeRow}
use Rattle.lp_model.specs.declared.graph.PinNet.{PinNet}
use Rattle.lp_model.specs.declared.graph.PinNet.TheVariants.{Unconnected}
use Rattle.lp_model.specs.declared.graph.Source.{Source as SourceRow}
use Rattle.lp_model.specs.declared.graph.Source.TheVariants.{Nothing, Edge as OfEdge}
use Rattle.lp_model.specs.declared.plan.AddedKind.{AddedKind}
use Rattle.lp_spec_bridge.specs.Tables.{Tables}

-- ---- cells

-- a signal pin of a cell: the number of its name, and whether the cell drives it
pub record Signal : Type 0 where
  pub name : ℕ
  pub drives : Bool

-- a cell by its pins: signal pins, then for each power and ground pin whether the cell drives it itself
pub record CellPins : Type 0 where
  pub signals : List Signal
  pub pgs : List Bool

abbrev pub no_pins : CellPins
no_pins = record { signals = []; pgs = [] }

-- the pins in the order of a row: which of them the cell drives
abbrev pub outputs_of : CellPins → List Bool
outputs_of c = map (λ (x : Signal). x.drives) c.signals ++ c.pgs

abbrev pub pin_count : CellPins → ℕ
pin_count c = length c.signals + length c.pgs

-- ---- the netlist

-- by what name a cell instance was added: by its kind and its number of this kind in its instance
pub record AddedCell : Type 0 where
  pub kind : AddedKind
  pub number : ℕ

-- module instances; cell instances, each with the row of its pins and with its name where it was added; net bits, each with the number of an added name; edges;
-- the node to which each edge of the source leads when all its operators stand; the library's cells; how many nodes are the source's, and how many of these lie in instances; the room
pub record Net : Type 0 where
  pub instances : List Inst
  pub leaves : List Leaf
  pub rows : List (List PinNet)
  pub added : List (Option AddedCell)
  pub nodes : List NodeRow
  pub numbers : List ℕ
  pub edges : List EdgeRow
  pub heads : List ℕ
  pub shapes : List CellShape
  pub cells : List CellPins
  pub kept : ℕ
  pub inner : ℕ
  pub room : Counts

abbrev pub no_room : Counts
no_room = record { nodes = 0; leaves = 0; ports = 0; pins = 0 }

abbrev pub cell_pins : List CellPins → ℕ → CellPins
cell_pins cells c = slice_index_or cells c no_pins

abbrev pub row_at : List CellPins → List PinNet → Leaf → List PinNet
row_at cells pins l = take (pin_count (cell_pins cells l.cell.0)) (drop l.start pins)

-- an elaborated netlist to which nothing was done, over the cells of its library
abbrev pub net_of : List CellPins → Tables → Net
net_of cells t = record {
  instances = t.instances;
  leaves = t.leaves;
  rows = map (row_at cells t.pins) t.leaves;
  added = map (λ (l : Leaf). None) t.leaves;
  nodes = t.nodes;
  numbers = map (λ (x : NodeRow). 0) t.nodes;
  edges = t.edges;
  heads = map (λ (x : EdgeRow). x.to.0) t.edges;
  shapes = t.shapes;
  cells = cells;
  kept = length t.nodes;
  inner = t.inner;
  room = no_room;
}

-- the rows of pins one behind another, each cell instance with the place at which its row begins
abbrev pub laid : ℕ → List (List PinNet) → List Leaf → List Leaf
laid start [] ls = []
laid start (row ∷ rows) [] = []
laid start (row ∷ rows) (l ∷ ls) = record l { start = start } ∷ laid (start + length row) rows ls

-- as tables
abbrev pub tables_of_net : Net → Tables
tables_of_net n = record {
  instances = n.instances;
  leaves = laid 0 n.rows n.leaves;
  pins = flat_map (λ (row : List PinNet). row) n.rows;
  nodes = n.nodes;
  edges = n.edges;
  shapes = n.shapes;
  inner = n.inner;
}

-- ---- by number

-- what drives a node; nothing drives what is no node
abbrev pub source_at : Net → ℕ → SourceRow
source_at n k = slice_index_or (map (λ (x : NodeRow). x.source) n.nodes) k Nothing

-- the instance of a node
abbrev pub inst_at : Net → ℕ → ℕ
inst_at n k = slice_index_or (map (λ (x : NodeRow). x.inst.0) n.nodes) k 0

abbrev pub edge_at : Net → ℕ → Option EdgeRow
edge_at n e = slice_get n.edges e

-- what a pin of a cell instance is joined to; what is no pin is joined to nothing
abbrev pub pin_at : Net → ℕ → ℕ → PinNet
pin_at n l q = slice_index_or (slice_index_or n.rows l []) q Unconnected

abbrev pub cell_pins_at : Net → ℕ → CellPins
cell_pins_at n l = cell_pins n.cells (slice_index_or (map (λ (x : Leaf). x.cell.0) n.leaves) l (length n.cells))

-- a cell instance drives its pin
abbrev pub drives : Net → ℕ → ℕ → Bool
drives n l q = slice_index_or (outputs_of (cell_pins_at n l)) q false

abbrev pub parent_at : Net → ℕ → Option ℕ
parent_at n i = option_and_then (λ (x : Inst). option_and_then (λ p. Some p.0) x.parent) (slice_get n.instances i)

-- ---- back along edges

abbrev pub from_node : EdgeFrom → Option ℕ
from_node (FromNode j) = Some j.0
from_node (FromConst b) = None

abbrev pub through : (ℕ → Option EdgeRow) → SourceRow → Option ℕ
through edges (OfEdge e) = option_and_then (λ (x : EdgeRow). from_node x.from) (edges e.0)
through edges _ = None

-- the node from which an edge leads to a node
abbrev pub before : Net → ℕ → Option ℕ
before n k = through (edge_at n) (source_at n k)

-- what a test says of a node that may be there
abbrev pub some_node : (ℕ → Bool) → Option ℕ → Bool
some_node test None = false
some_node test (Some j) = test j

-- within so many steps back from a node another one is met
abbrev pub is_met : Net → ℕ → ℕ → ℕ → Bool
is_met n x zero k = k == x
is_met n x (suc steps) k = (k == x) || some_node (λ j. is_met n x steps j) (before n k)
