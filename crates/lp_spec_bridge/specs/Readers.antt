-- All that reads, by number: input pins of cell instances and outputs of the top (own rule).
use Rattle.std.specs.Prelude.{ℕ, List, [], ◌++◌, map, filter, flat_map, drop, Option, Some, None, slice_index_or}
use Rattle.lp_model.specs.declared.graph.EdgeFrom.{EdgeFrom}
use Rattle.lp_model.specs.declared.graph.EdgeFrom.TheVariants.{Node as FromNode}
use Rattle.lp_model.specs.declared.graph.Leaf.{Leaf}
use Rattle.lp_model.specs.declared.graph.Node.{Node as NodeRow}
use Rattle.lp_model.specs.declared.graph.Source.{Source as SourceRow}
use Rattle.lp_model.specs.declared.graph.Source.TheVariants.{Env}
use Rattle.lp_spec_design.specs.Keys.{Node, Outer}
use Rattle.lp_spec_design.specs.Netlists.{Structure}
use Rattle.lp_spec_design.specs.Graph.{Reader, InputPin, TopOutput, some_of, numbered}
use Rattle.lp_spec_bridge.specs.Tables.{Tables}
use Rattle.lp_spec_bridge.specs.Keyed.{Keyed, node_at, leaf_at}
use Rattle.lp_spec_bridge.specs.Represents.{cell_of, from_key}
use Rattle.lp_spec_bridge.specs.Inputs.{inputs_by, pin_names}
use Rattle.lp_spec_bridge.specs.Walks.{passes_by}

-- a pin of a cell instance, or a node on the environment's side
pub data ReaderRow : Type 0 where
  LeafPin : ℕ → ℕ → ReaderRow
  TopNode : ℕ → ReaderRow

-- the connected input pins of a cell instance
abbrev pub leaf_readers : Structure → Tables → ℕ × Leaf → List (ReaderRow × EdgeFrom)
leaf_readers s t z = map (λ (x : ℕ × EdgeFrom). (LeafPin z.0 x.0, x.1)) (inputs_by s t z.1)

-- an outer side that the environment does not drive is one of an output
abbrev pub output_row : ℕ → SourceRow → Option (ReaderRow × EdgeFrom)
output_row k Env = None
output_row k x = Some (TopNode k, FromNode (record { 0 = k }))

abbrev pub top_readers : Tables → List (ReaderRow × EdgeFrom)
top_readers t = some_of (λ (z : ℕ × NodeRow). output_row z.0 z.1.source) (numbered t.inner (drop t.inner t.nodes))

abbrev pub readers_by : Structure → Tables → List (ReaderRow × EdgeFrom)
readers_by s t = flat_map (leaf_readers s t) (numbered 0 t.leaves) ++ top_readers t

-- what they are by paths
abbrev pub top_output : Node → Reader
top_output (Outer n i) = TopOutput n i
top_output k = TopOutput [] None

abbrev pub reader_key : Structure → Keyed → Tables → ReaderRow → Reader
reader_key s ks t (LeafPin k j) = InputPin (leaf_at ks k).path (leaf_at ks k).instance (slice_index_or (pin_names (cell_of s t k)) j [])
reader_key s ks t (TopNode k) = top_output (node_at ks k)

abbrev pub reader_with_node : Structure → Keyed → Tables → ReaderRow × EdgeFrom → Reader × Node
reader_with_node s ks t x = (reader_key s ks t x.0, from_key ks x.1)

-- those to which an edge leads
abbrev pub readers_behind : Structure → Tables → ℕ → ℕ → List ReaderRow
readers_behind s t fuel e = map (λ (x : ReaderRow × EdgeFrom). x.0) (filter (λ (x : ReaderRow × EdgeFrom). passes_by t fuel e x.1) (readers_by s t))
