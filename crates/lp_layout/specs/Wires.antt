-- Nodes and edges as they are fed one after another: the first that drives a node stays (own rule).
use Rattle.std.specs.Prelude.{ℕ, List, [], ◌∷◌, ◌++◌, length, slice_set, slice_index_or}
use Rattle.lp_model.specs.declared.graph.Node.{Node as NodeRow}
use Rattle.lp_model.specs.declared.graph.NodeName.TheVariants.{Scalar}
use Rattle.lp_model.specs.declared.graph.Source.{Source as SourceRow}
use Rattle.lp_model.specs.declared.graph.Source.TheVariants.{Nothing, Env, Leaf as OfLeaf, Edge as OfEdge}
use Rattle.lp_spec_layout.specs.Feeds.{Driver, ByEdge, ByPin, ByOutside, Feed}
use Rattle.lp_spec_layout.specs.OnePass.{or_next}
use Rattle.lp_layout.specs.declared.wires.Wires.{Wires}
use Rattle.lp_layout.specs.Held.{word}

abbrev pub no_node : NodeRow
no_node = record { inst = record { 0 = 0 }; name = Scalar (record { 0 = 0 }); source = Nothing }

abbrev pub with_source : NodeRow → SourceRow → NodeRow
with_source x source = record { inst = x.inst; name = x.name; source = or_next x.source source }

abbrev pub noted : List NodeRow → ℕ → SourceRow → List NodeRow
noted nodes k source = slice_set nodes k (with_source (slice_index_or nodes k no_node) source)

-- an edge has the next number
abbrev pub taken : Wires → ℕ → Driver → Wires
taken w k (ByEdge from kind) = record {
  nodes = noted w.nodes k (OfEdge (record { 0 = word (length w.edges) }));
  edges = w.edges ++ record { from = from; to = record { 0 = k }; kind = kind } ∷ [];
}
taken w k (ByPin pin leaf) = record { nodes = noted w.nodes k (OfLeaf pin (record { 0 = leaf })); edges = w.edges }
taken w k ByOutside = record { nodes = noted w.nodes k Env; edges = w.edges }

abbrev pub fed : Wires → List Feed → Wires
fed w [] = w
fed w (x ∷ xs) = fed (taken w x.0 x.1) xs
