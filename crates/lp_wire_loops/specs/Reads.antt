-- Which node each node reads by a port connection or an assign, by number (IEEE 1364-2005, port connections and continuous assignments).
use Rattle.std.specs.Prelude.{◌≡◌, ◌<◌, ℕ, nat_lt, true, if◌then◌else◌, List, [], ◌∷◌, map, Option, Some, None, option_map, slice_index_or}
use Rattle.lp_model.specs.declared.graph.Edge.{Edge}
use Rattle.lp_model.specs.declared.graph.EdgeFrom.{EdgeFrom}
use Rattle.lp_model.specs.declared.graph.EdgeFrom.TheVariants.{Node as FromNode, Const as FromConst}
use Rattle.lp_model.specs.declared.graph.Node.{Node as NodeRow}
use Rattle.lp_model.specs.declared.graph.Source.{Source}
use Rattle.lp_model.specs.declared.graph.Source.TheVariants.{Edge as OfEdge}
use Rattle.lp_model.specs.declared.ids.NodeId.{NodeId}
use Rattle.lp_spec_design.specs.Netlists.{Structure}
use Rattle.lp_spec_faults.specs.Lines.{first_of}
use Rattle.lp_spec_faults.specs.Wires.{wire_loop}
use Rattle.lp_model.specs.declared.graph.Graph.{Graph}
use Rattle.lp_spec_bridge.specs.Keyed.{keys_of, node_at}
use Rattle.lp_spec_bridge.specs.Tables.{Tables}
use Rattle.lp_spec_bridge.specs.Elaborates.{Elaborates}

-- the node from which an edge comes
abbrev pub from_node : EdgeFrom → List ℕ
from_node (FromNode k) = k.0 ∷ []
from_node (FromConst b) = []

-- the node that one reads, if an edge leads to it
abbrev pub source_reads : List Edge → Source → List ℕ
source_reads edges (OfEdge e) = from_node (slice_index_or (map (λ (x : Edge). x.from) edges) e.0 (FromConst true))
source_reads edges _ = []

abbrev pub wire_reads : List Edge → List NodeRow → List (List ℕ)
wire_reads edges nodes = map (λ (x : NodeRow). source_reads edges x.source) nodes

-- a node of an instance, by its number; the outer sides of the top's ports lie behind these
abbrev pub inner_node : Option ℕ → ℕ → Option NodeId
inner_node None inner = None
inner_node (Some k) inner = if nat_lt k inner then Some (record { 0 = k }) else None

-- its nodes and edges are those of an elaborated netlist
pub record HasWires (texts : List (List ℕ)) (s : Structure) (g : Graph) : Type 0 where
  pub tables : Tables
  pub elaborates : Elaborates texts s tables
  pub nodes : g.nodes ≡ tables.nodes
  pub edges : g.edges ≡ tables.edges
  pub inner : g.inner ≡ tables.inner

-- the node is the first net bit that reaches itself through ports and assigns alone
abbrev pub IsFirstLoop : Structure → Option NodeId → Type 0
IsFirstLoop s o = option_map (λ (k : NodeId). node_at (keys_of s) k.0) o ≡ first_of (wire_loop s)

-- one node, or none
abbrev pub read_or_none : Option ℕ → List ℕ
read_or_none None = []
read_or_none (Some k) = k ∷ []

-- the node is one of so many, where there is one
abbrev pub IsWithin : ℕ → Option NodeId → Type 0
IsWithin inner None = Unit {0}
IsWithin inner (Some k) = k.0 < inner
