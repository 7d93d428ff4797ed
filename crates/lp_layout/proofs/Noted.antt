-- What is fed is noted in one pass; names stay.
use Rattle.std.proofs.Common.{◌≡◌, ℕ, zero, suc, ◌+◌, ◌≤◌, ◌<◌, List, [], ◌∷◌, ◌++◌, length, refl, sym, ap, ◌∙◌, arith, append_assoc, append-nil, length-append}
use Rattle.std.specs.Prelude.{map}
use Rattle.lp_model.specs.declared.graph.Edge.{Edge as EdgeRow}
use Rattle.lp_model.specs.declared.graph.Node.{Node as NodeRow}
use Rattle.lp_model.specs.declared.graph.NodeName.{NodeName}
use Rattle.lp_model.specs.declared.graph.Source.{Source as SourceRow}
use Rattle.lp_spec_design.specs.Graph.{some_of}
use Rattle.lp_spec_layout.specs.Feeds.{Driver, ByEdge, ByPin, ByOutside, Feed, source_in, rows_from, edge_row}
use Rattle.lp_spec_layout.specs.OnePass.{note, note_all}
use Rattle.lp_layout.specs.declared.wires.Wires.{Wires}
use Rattle.lp_layout.specs.Held.{word}
use Rattle.lp_layout.specs.Wires.{noted, taken, fed}

abbrev pub sources_of : List NodeRow → List SourceRow
sources_of xs = map (λ (x : NodeRow). x.source) xs

abbrev pub names_of : List NodeRow → List (ℕ × NodeName)
names_of xs = map (λ (x : NodeRow). (x.inst.0, x.name)) xs

noted-sources : (xs : List NodeRow) (k : ℕ) (source : SourceRow) → sources_of (noted xs k source) ≡ note (sources_of xs) (k, source)
noted-sources [] k source = refl
noted-sources (x ∷ xs) zero source = refl
noted-sources (x ∷ xs) (suc k) source = ap (λ z. x.source ∷ z) (noted-sources xs k source)

noted-names : (xs : List NodeRow) (k : ℕ) (source : SourceRow) → names_of (noted xs k source) ≡ names_of xs
noted-names [] k source = refl
noted-names (x ∷ xs) zero source = refl
noted-names (x ∷ xs) (suc k) source = ap (λ z. (x.inst.0, x.name) ∷ z) (noted-names xs k source)

-- ---- edges

pub fed_edges : (w : Wires) (xs : List Feed) → (fed w xs).edges ≡ w.edges ++ some_of edge_row xs
fed_edges w [] = sym (append-nil w.edges)
fed_edges w (x ∷ xs) = fed_edges (taken w x.0 x.1) xs ∙ by x.1
  where
    by : (d : Driver) → (taken w x.0 d).edges ++ some_of edge_row xs ≡ w.edges ++ some_of edge_row ((x.0, d) ∷ xs)
    by (ByEdge from kind) =
        let e : EdgeRow = record { from = from; to = record { 0 = x.0 }; kind = kind } in
        append_assoc w.edges (e ∷ []) (some_of edge_row xs)
    by (ByPin pin leaf) = refl
    by ByOutside = refl

-- ---- nodes

pub fed_names : (w : Wires) (xs : List Feed) → names_of (fed w xs).nodes ≡ names_of w.nodes
fed_names w [] = refl
fed_names w (x ∷ xs) = fed_names (taken w x.0 x.1) xs ∙ by x.1
  where
    by : (d : Driver) → names_of (taken w x.0 d).nodes ≡ names_of w.nodes
    by (ByEdge from kind) = noted-names w.nodes x.0 _
    by (ByPin pin leaf) = noted-names w.nodes x.0 _
    by ByOutside = noted-names w.nodes x.0 _

word-exact : (n : ℕ) → n < 4294967296 → word n ≡ n
word-exact n low = omega (arith, low)

-- as many edges as 32 bits count
pub fed_sources : (w : Wires) (xs : List Feed) → length w.edges + length (some_of edge_row xs) ≤ 4294967296 → sources_of (fed w xs).nodes ≡ note_all (sources_of w.nodes) (rows_from (length w.edges) xs)
fed_sources w [] few = refl
fed_sources w ((k, ByEdge from kind) ∷ xs) few =
    let e : EdgeRow = record { from = from; to = record { 0 = k }; kind = kind } in
    let size = length-append w.edges (e ∷ []) in
    let more : length (w.edges ++ e ∷ []) ≡ length w.edges + 1 = omega (arith, size) in
    let left : length (w.edges ++ e ∷ []) + length (some_of edge_row xs) ≤ 4294967296 = omega (arith, size, few) in
    let number : word (length w.edges) ≡ length w.edges = word-exact (length w.edges) (omega (arith, few)) in
    fed_sources (taken w k (ByEdge from kind)) xs left
    ∙ ap (λ z. note_all z (rows_from (length (w.edges ++ e ∷ [])) xs)) (noted-sources w.nodes k (source_in (word (length w.edges)) (ByEdge from kind)))
    ∙ (λ i. note_all (note (sources_of w.nodes) (k, source_in (number i) (ByEdge from kind))) (rows_from (more i) xs))
fed_sources w ((k, ByPin pin leaf) ∷ xs) few = fed_sources (taken w k (ByPin pin leaf)) xs few ∙ ap (λ z. note_all z (rows_from (length w.edges) xs)) (noted-sources w.nodes k (source_in 0 (ByPin pin leaf)))
fed_sources w ((k, ByOutside) ∷ xs) few = fed_sources (taken w k ByOutside) xs few ∙ ap (λ z. note_all z (rows_from (length w.edges) xs)) (noted-sources w.nodes k (source_in 0 ByOutside))
