-- The first row for each node, noted in one pass over the rows (own rule).
use Rattle.std.specs.Prelude.{ℕ, List, [], ◌∷◌, map, set, slice_index_or}
use Rattle.lp_model.specs.declared.graph.Source.{Source as SourceRow}
use Rattle.lp_model.specs.declared.graph.Source.TheVariants.{Nothing, Env, Leaf as OfLeaf, Edge as OfEdge}
use Rattle.lp_spec_design.specs.Netlists.{upward}
use Rattle.lp_spec_bridge.specs.Noted.{DriveRow}

-- what is noted stays
abbrev pub or_next : SourceRow → SourceRow → SourceRow
or_next Nothing next = next
or_next Env next = Env
or_next (OfLeaf pin leaf) next = OfLeaf pin leaf
or_next (OfEdge e) next = OfEdge e

abbrev pub note : List SourceRow → DriveRow → List SourceRow
note sources x = set sources x.0 (or_next (slice_index_or sources x.0 Nothing) x.1)

abbrev pub note_all : List SourceRow → List DriveRow → List SourceRow
note_all sources [] = sources
note_all sources (x ∷ rows) = note_all (note sources x) rows

-- as many nodes without a source
abbrev pub without_sources : ℕ → List SourceRow
without_sources n = map (λ k. Nothing) (upward n 0)
