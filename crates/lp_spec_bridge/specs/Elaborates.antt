-- When tables are the elaborated netlist: they represent it with all parts in their order (own rule).
use Rattle.std.specs.Prelude.{◌≡◌, ℕ, ◌+◌, Bool, false, List, [], ◌∷◌, ◌++◌, map, length, take, drop, Option, Some, None, is_some, slice_get, slice_index_or}
use Rattle.lp_text.specs.Texts.{text_at}
use Rattle.lp_model.specs.declared.graph.CellShape.{CellShape}
use Rattle.lp_model.specs.declared.graph.Edge.{Edge as EdgeRow}
use Rattle.lp_model.specs.declared.graph.EdgeKind.{EdgeKind}
use Rattle.lp_model.specs.declared.graph.Inst.{Inst}
use Rattle.lp_model.specs.declared.graph.Leaf.{Leaf}
use Rattle.lp_model.specs.declared.graph.Node.{Node as NodeRow}
use Rattle.lp_model.specs.declared.graph.NodeName.{NodeName}
use Rattle.lp_model.specs.declared.graph.NodeName.TheVariants.{Scalar, Bit, Added}
use Rattle.lp_model.specs.declared.ids.InstId.{InstId}
use Rattle.lp_model.specs.declared.netlist.Direction.{Direction}
use Rattle.lp_model.specs.LibraryView.{CellView, PinView}
use Rattle.lp_spec_design.specs.Keys.{Path, Node, Inner, Outer, Fixed}
use Rattle.lp_spec_design.specs.Netlists.{Structure, module_at}
use Rattle.lp_spec_design.specs.Instances.{Placed, module_instances, cell_instances}
use Rattle.lp_spec_design.specs.Nodes.{nodes_in, inner_nodes, outer_in}
use Rattle.lp_spec_bridge.specs.Tables.{Tables}
use Rattle.lp_spec_bridge.specs.Edges.{Edge, edges_of, kind_of}
use Rattle.lp_spec_bridge.specs.Keyed.{Keyed, keys_of, node_at, AreKeys}
use Rattle.lp_spec_bridge.specs.Represents.{Represents, from_key}

-- ---- instances

-- the path of an instance: its name in front of the path of the one in which it stands
abbrev pub path_in : List (List ℕ) → List Path → ℕ → Option InstId → Path
path_in texts done name None = []
path_in texts done name (Some parent) = text_at texts name ∷ slice_index_or done parent.0 []

-- the paths of instances, each from those before it
abbrev pub paths_from : List (List ℕ) → List Path → List Inst → List Path
paths_from texts done [] = done
paths_from texts done (x ∷ xs) = paths_from texts (done ++ (path_in texts done x.name.0 x.parent ∷ [])) xs

abbrev pub paths_of : List (List ℕ) → Tables → List Path
paths_of texts t = paths_from texts [] t.instances

-- the first node of each instance: they lie one behind another
abbrev pub starts_from : Structure → ℕ → List Path → List ℕ
starts_from s start [] = []
starts_from s start (p ∷ ps) = start ∷ starts_from s (start + length (nodes_in p (module_at s p))) ps

-- ---- names

abbrev pub inner_key : List (List ℕ) → Path → NodeName → Node
inner_key texts p (Scalar n) = Inner (text_at texts n.0) None p
inner_key texts p (Bit n i) = Inner (text_at texts n.0) (Some i) p
inner_key texts p (Added w) = Fixed false

abbrev pub outer_key : List (List ℕ) → NodeName → Node
outer_key texts (Scalar n) = Outer (text_at texts n.0) None
outer_key texts (Bit n i) = Outer (text_at texts n.0) (Some i)
outer_key texts (Added w) = Fixed false

abbrev pub placed_key : List (List ℕ) → List Path → Leaf → Placed
placed_key texts paths l = record { path = slice_index_or paths l.inst.0 []; instance = text_at texts l.name.0 }

-- ---- edges and cells

-- an edge by its ends and its kind
abbrev pub Ends : Type 0
Ends = Node × Node × EdgeKind

abbrev pub row_ends : Keyed → EdgeRow → Ends
row_ends ks e = (from_key ks e.from, node_at ks e.to.0, e.kind)

abbrev pub edge_ends : Edge → Ends
edge_ends e = (e.from, e.to, kind_of e)

-- the directions of a cell's signal pins, the number of its power and ground pins, and whether it has a state group
abbrev pub Shape : Type 0
Shape = List Direction × ℕ × Bool

abbrev pub row_shape : CellShape → Shape
row_shape c = (c.pins, c.pgs, c.state)

abbrev pub shape_of : CellView → Shape
shape_of c = (map (λ (q : PinView). q.direction) c.pins, length c.pgs, is_some c.state)

-- ---- the elaborated netlist

-- the texts are those of the names' numbers
pub record Elaborates (texts : List (List ℕ)) (s : Structure) (t : Tables) : Type 0 where
  pub represents : Represents s (keys_of s) t
  pub apart : AreKeys (keys_of s)
  pub instances : paths_of texts t ≡ module_instances s
  pub modules : map (λ (x : Inst). slice_get s.modules x.module) t.instances ≡ map (module_at s) (module_instances s)
  pub starts : map (λ (x : Inst). x.start) t.instances ≡ starts_from s 0 (module_instances s)
  pub leaves : map (placed_key texts (module_instances s)) t.leaves ≡ cell_instances s
  pub inner : t.inner ≡ length (inner_nodes s)
  pub inner_bits : map (λ (x : NodeRow). inner_key texts (slice_index_or (module_instances s) x.inst.0 []) x.name) (take t.inner t.nodes) ≡ inner_nodes s
  pub outer_bits : map (λ (x : NodeRow). outer_key texts x.name) (drop t.inner t.nodes) ≡ outer_in (module_at s [])
  pub edges : map (row_ends (keys_of s)) t.edges ≡ map edge_ends (edges_of s)
  pub shapes : map row_shape t.shapes ≡ map shape_of s.cells
