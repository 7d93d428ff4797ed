-- When tables of numbers represent a design, whatever list gives the keys of the numbers (own rule).
use Rattle.std.specs.Prelude.{◌≡◌, ℕ, ◌+◌, List, [], ◌++◌, map, length, take, drop, Option, Some, None, option_and_then, slice_get}
use Rattle.lp_model.specs.declared.graph.EdgeFrom.{EdgeFrom}
use Rattle.lp_model.specs.declared.graph.EdgeFrom.TheVariants.{Node as FromNode, Const as FromConst}
use Rattle.lp_model.specs.declared.graph.Leaf.{Leaf}
use Rattle.lp_model.specs.declared.graph.Node.{Node as NodeRow}
use Rattle.lp_model.specs.declared.graph.PinNet.{PinNet}
use Rattle.lp_model.specs.declared.graph.PinNet.TheVariants.{Unconnected, Const as PinConst, Node as PinNode}
use Rattle.lp_model.specs.declared.graph.Source.{Source as SourceRow}
use Rattle.lp_model.specs.declared.graph.Source.TheVariants.{Nothing, Env, Leaf as OfLeaf, Edge as OfEdge}
use Rattle.lp_model.specs.LibraryView.{PgPinView, CellView, PinView}
use Rattle.lp_spec_design.specs.Keys.{Name, Node, Fixed, Source, CellPin, SwitchedPin, Environment, From}
use Rattle.lp_spec_design.specs.Netlists.{Structure, module_at, cell_at, instance_named}
use Rattle.lp_spec_design.specs.Instances.{Placed}
use Rattle.lp_spec_design.specs.Graph.{source_of, pin_node}
use Rattle.lp_spec_bridge.specs.Tables.{Tables, edge_from, IsClosed}
use Rattle.lp_spec_bridge.specs.Keyed.{Keyed, node_at, way_at, leaf_at}

-- the node that a number or a constant means
abbrev pub from_key : Keyed → EdgeFrom → Node
from_key ks (FromNode k) = node_at ks k.0
from_key ks (FromConst b) = Fixed b

-- ---- sources

-- a cell instance's signal pins, then its power and ground pins, as what drives
abbrev pub outputs_in : Placed → Option CellView → List Source
outputs_in a None = []
outputs_in a (Some c) = map (λ (q : PinView). CellPin a.path a.instance q.name) c.pins ++ map (λ (g : PgPinView). SwitchedPin a.path a.instance g.name) c.pgs

-- the cell of a cell instance of the tables
abbrev pub cell_of : Structure → Tables → ℕ → Option CellView
cell_of s t k = option_and_then (λ (l : Leaf). slice_get s.cells l.cell.0) (slice_get t.leaves k)

abbrev pub source_key : Structure → Keyed → Tables → SourceRow → Option Source
source_key s ks t Nothing = None
source_key s ks t Env = Some Environment
source_key s ks t (OfLeaf pin leaf) = slice_get (outputs_in (leaf_at ks leaf.0) (cell_of s t leaf.0)) pin
source_key s ks t (OfEdge e) = Some (From (way_at ks e.0) (from_key ks (edge_from t e.0)))

-- ---- pins

-- the number of a cell's pins of both kinds
abbrev pub row_size : Option CellView → ℕ
row_size None = 0
row_size (Some c) = length c.pins + length c.pgs

abbrev pub row_of : Structure → Tables → Leaf → List PinNet
row_of s t l = take (row_size (slice_get s.cells l.cell.0)) (drop l.start t.pins)

-- the node at a pin, none where it is open
abbrev pub pin_key : Keyed → PinNet → Option Node
pin_key ks Unconnected = None
pin_key ks (PinConst b) = Some (Fixed b)
pin_key ks (PinNode k) = Some (node_at ks k.0)

-- the node at a pin of a cell instance by its name
abbrev pub joined_at : Structure → Placed → Name → Option Node
joined_at s a q = option_and_then (λ m. option_and_then (λ x. pin_node a.path q x.connections) (instance_named m a.instance)) (module_at s a.path)

-- the nodes at its signal pins, then at its power and ground pins
abbrev pub nodes_at_pins : Structure → Placed → Option CellView → List (Option Node)
nodes_at_pins s a None = []
nodes_at_pins s a (Some c) = map (λ (q : PinView). joined_at s a q.name) c.pins ++ map (λ (g : PgPinView). joined_at s a g.name) c.pgs

-- ---- tables that represent a design

-- over any lists of keys: nodes have their sources, cell instances their cells and their pins
pub record Represents (s : Structure) (ks : Keyed) (t : Tables) : Type 0 where
  pub count : length t.nodes ≡ length ks.nodes
  pub ways : length t.edges ≡ length ks.ways
  pub sources : map (λ (x : NodeRow). source_key s ks t x.source) t.nodes ≡ map (source_of s) ks.nodes
  pub cells : map (λ (l : Leaf). slice_get s.cells l.cell.0) t.leaves ≡ map (λ (a : Placed). cell_at s a.path a.instance) ks.leaves
  pub pins : map (λ (l : Leaf). map (pin_key ks) (row_of s t l)) t.leaves ≡ map (λ (a : Placed). nodes_at_pins s a (cell_at s a.path a.instance)) ks.leaves
  pub closed : IsClosed t
