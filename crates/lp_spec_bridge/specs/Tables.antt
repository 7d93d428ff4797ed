-- The tables of an elaborated netlist as lists, each by number (own rule).
use Rattle.std.specs.Prelude.{◌≡◌, ℕ, suc, ◌==◌, nat_lt, Bool, true, ◌&&◌, List, map, length, Option, Some, None, slice_index_or}
use Rattle.std.specs.List.{list_all}
use Rattle.lp_model.specs.declared.graph.CellShape.{CellShape}
use Rattle.lp_model.specs.declared.graph.Edge.{Edge as EdgeRow}
use Rattle.lp_model.specs.declared.graph.EdgeFrom.{EdgeFrom}
use Rattle.lp_model.specs.declared.graph.EdgeFrom.TheVariants.{Node as FromNode, Const as FromConst}
use Rattle.lp_model.specs.declared.graph.Graph.{Graph}
use Rattle.lp_model.specs.declared.graph.Inst.{Inst}
use Rattle.lp_model.specs.declared.graph.Leaf.{Leaf}
use Rattle.lp_model.specs.declared.graph.Node.{Node as NodeRow}
use Rattle.lp_model.specs.declared.graph.PinNet.{PinNet}
use Rattle.lp_model.specs.declared.graph.PinNet.TheVariants.{Node as PinNode}
use Rattle.lp_model.specs.declared.graph.Source.{Source as SourceRow}
use Rattle.lp_model.specs.declared.graph.Source.TheVariants.{Nothing, Leaf as OfLeaf, Edge as OfEdge}
use Rattle.lp_model.specs.declared.ids.InstId.{InstId}
use Rattle.lp_spec_design.specs.Graph.{numbered}

-- instances, cell instances, the rows of their pins, net bits, edges, the shapes of the library's cells, and how many net bits belong to instances
pub record Tables : Type 0 where
  pub instances : List Inst
  pub leaves : List Leaf
  pub pins : List PinNet
  pub nodes : List NodeRow
  pub edges : List EdgeRow
  pub shapes : List CellShape
  pub inner : ℕ

abbrev pub tables_of : Graph → Tables
tables_of g = record { instances = g.instances; leaves = g.leaves; pins = g.pins; nodes = g.nodes; edges = g.edges; shapes = g.shapes; inner = g.inner }

-- what drives a node; a constant has no source
abbrev pub source_row : Tables → EdgeFrom → SourceRow
source_row t (FromNode k) = slice_index_or (map (λ (x : NodeRow). x.source) t.nodes) k.0 Nothing
source_row t (FromConst b) = Nothing

-- where an edge comes from
abbrev pub edge_from : Tables → ℕ → EdgeFrom
edge_from t e = slice_index_or (map (λ (x : EdgeRow). x.from) t.edges) e (FromConst true)

-- ---- numbers within their tables

abbrev pub has_node : Tables → EdgeFrom → Bool
has_node t (FromNode k) = nat_lt k.0 (length t.nodes)
has_node t (FromConst b) = true

abbrev pub has_source : Tables → SourceRow → Bool
has_source t (OfLeaf pin leaf) = nat_lt leaf.0 (length t.leaves)
has_source t (OfEdge e) = nat_lt e.0 (length t.edges)
has_source t _ = true

abbrev pub has_pin : Tables → PinNet → Bool
has_pin t (PinNode k) = nat_lt k.0 (length t.nodes)
has_pin t _ = true

-- the edge that drives a node leads to it
abbrev pub is_led : Tables → ℕ → SourceRow → Bool
is_led t k (OfEdge e) = slice_index_or (map (λ (x : EdgeRow). x.to.0) t.edges) e.0 (suc k) == k
is_led t k _ = true

-- each instance comes after the one in which it stands
abbrev pub is_behind : ℕ → Option InstId → Bool
is_behind k None = true
is_behind k (Some parent) = nat_lt parent.0 k

-- sources, edges, pins, and the instances of cell instances and of instances are within their tables
pub record IsClosed (t : Tables) : Type 0 where
  pub sources : list_all (λ (x : NodeRow). has_source t x.source) t.nodes ≡ true
  pub led : list_all (λ (x : ℕ × NodeRow). is_led t x.0 x.1.source) (numbered 0 t.nodes) ≡ true
  pub edges : list_all (λ (x : EdgeRow). has_node t x.from && nat_lt x.to.0 (length t.nodes)) t.edges ≡ true
  pub pins : list_all (has_pin t) t.pins ≡ true
  pub leaves : list_all (λ (x : Leaf). nat_lt x.inst.0 (length t.instances)) t.leaves ≡ true
  pub instances : list_all (λ (x : ℕ × Inst). is_behind x.0 x.1.parent) (numbered 0 t.instances) ≡ true
