-- A sound netlist has closed tables.
use Rattle.std.proofs.Common.{◌≡◌, ℕ, zero, suc, ◌+◌, Bool, true, ◌&&◌, List, [], ◌∷◌, ◌++◌, map, length, get_or, Some, None, refl, ap, ◌∙◌, arith}
use Rattle.std.specs.Prelude.{nat_lt, slice_get, flat_map}
use Rattle.std.specs.List.{list_all}
use Rattle.std.proofs.lemmas.Bool.{lt-ltb, eq-eqb}
use Rattle.std.proofs.lemmas.Option.{slice_get_within}
use Rattle.lp_spec_edits.proofs.Wires.{same-some}
use Rattle.lp_model.specs.declared.graph.Edge.{Edge as EdgeRow}
use Rattle.lp_model.specs.declared.graph.EdgeFrom.{EdgeFrom}
use Rattle.lp_model.specs.declared.graph.EdgeFrom.TheVariants.{Node as FromNode, Const as FromConst}
use Rattle.lp_model.specs.declared.graph.Leaf.{Leaf}
use Rattle.lp_model.specs.declared.graph.Node.{Node as NodeRow}
use Rattle.lp_model.specs.declared.graph.PinNet.{PinNet}
use Rattle.lp_model.specs.declared.graph.PinNet.TheVariants.{Unconnected, Const as PinConst, Node as PinNode}
use Rattle.lp_model.specs.declared.graph.Source.{Source as SourceRow}
use Rattle.lp_model.specs.declared.graph.Source.TheVariants.{Nothing, Env, Leaf as OfLeaf, Edge as OfEdge}
use Rattle.lp_spec_design.specs.Graph.{numbered}
use Rattle.lp_spec_design.specs.Reads.{one, other, both}
use Rattle.lp_spec_bridge.specs.Tables.{Tables, IsClosed, has_node, has_source, has_pin, is_led}
use Rattle.lp_spec_edits.specs.Net.{Net, tables_of_net, laid, source_at, pin_at}
use Rattle.lp_spec_edits.specs.Sound.{IsEdge, IsSound}
use Rattle.lp_spec_edits.proofs.Edited.{pin-there}

-- what holds of each entry holds of all
all-by : {A : Type 0} (test : A → Bool) (xs : List A) → ((k : ℕ) (x : A) → slice_get xs k ≡ Some x → test x ≡ true) → list_all test xs ≡ true
all-by test [] each = refl
all-by test (x ∷ xs) each = both (test x) (list_all test xs) (each zero x refl) (all-by test xs (λ k y e. each (suc k) y e))

all-numbered : {A : Type 0} (test : ℕ × A → Bool) (start : ℕ) (xs : List A) → ((k : ℕ) (x : A) → slice_get xs k ≡ Some x → test (start + k, x) ≡ true) → list_all test (numbered start xs) ≡ true
all-numbered test start [] each = refl
all-numbered test start (x ∷ xs) each =
    both (test (start, x)) (list_all test (numbered (start + 1) xs))
    (ap (λ k. test (k, x)) (omega-zero start) ∙ each zero x refl)
    (all-numbered test (start + 1) xs (λ k y e. ap (λ m. test (m, y)) (omega-suc start k) ∙ each (suc k) y e))
  where
    omega-zero : (m : ℕ) → m ≡ m + 0
    omega-zero m = omega arith

    omega-suc : (m k : ℕ) → m + 1 + k ≡ m + suc k
    omega-suc m k = omega arith

length-laid : (start : ℕ) (rows : List (List PinNet)) (ls : List Leaf) → length rows ≡ length ls → length (laid start rows ls) ≡ length ls
length-laid start [] [] e = refl
length-laid start [] (l ∷ ls) e = absurd (omega (arith, e))
length-laid start (row ∷ rows) [] e = absurd (omega (arith, e))
length-laid start (row ∷ rows) (l ∷ ls) e = ap suc (length-laid (start + length row) rows ls (omega (arith, e)))

all-laid : (test : Leaf → Bool) → ((l : Leaf) (start : ℕ) → test (record l { start = start }) ≡ test l) → (start : ℕ) (rows : List (List PinNet)) (ls : List Leaf) → list_all test ls ≡ true → list_all test (laid start rows ls) ≡ true
all-laid test same start [] ls h = refl
all-laid test same start (row ∷ rows) [] h = refl
all-laid test same start (row ∷ rows) (l ∷ ls) h =
    both (test (record l { start = start })) (list_all test (laid (start + length row) rows ls)) (same l start ∙ one (test l) (list_all test ls) h) (all-laid test same (start + length row) rows ls (other (test l) (list_all test ls) h))

no-entry : {A : Type 0} (x : A) → None ≡ Some x → ⊥
no-entry x e = cc

map-at : {A B : Type 0} (f : A → B) (xs : List A) (k : ℕ) (x : A) (d : B) → slice_get xs k ≡ Some x → get_or (map f xs) k d ≡ f x
map-at f [] zero x d e = absurd (no-entry x e)
map-at f [] (suc k) x d e = absurd (no-entry x e)
map-at f (y ∷ xs) zero x d e = ap f (same-some y x e)
map-at f (y ∷ xs) (suc k) x d e = map-at f xs k x d e

all-front : (test : PinNet → Bool) (xs ys : List PinNet) → ((q : ℕ) → test (get_or xs q Unconnected) ≡ true) → list_all test ys ≡ true → list_all test (xs ++ ys) ≡ true
all-front test [] ys at more = more
all-front test (x ∷ xs) ys at more = both (test x) (list_all test (xs ++ ys)) (at zero) (all-front test xs ys (λ q. at (suc q)) more)

-- pins of rows one behind another
all-pins : (test : PinNet → Bool) → test Unconnected ≡ true → (rows : List (List PinNet)) → ((l q : ℕ) → test (get_or (get_or rows l []) q Unconnected) ≡ true) → list_all test (flat_map (λ (row : List PinNet). row) rows) ≡ true
all-pins test open_ [] each = refl
all-pins test open_ (row ∷ rows) each = all-front test row (flat_map (λ (r : List PinNet). r) rows) (λ q. each zero q) (all-pins test open_ rows (λ l q. each (suc l) q))

module _ (n : Net) (h : IsSound n) where
  abbrev t : Tables
  t = tables_of_net n

  leaves-are : length t.leaves ≡ length n.leaves
  leaves-are = length-laid 0 n.rows n.leaves h.rows

  source-is : (k : ℕ) (x : NodeRow) → slice_get n.nodes k ≡ Some x → source_at n k ≡ x.source
  source-is k x e = map-at (λ (y : NodeRow). y.source) n.nodes k x Nothing e

  source-in : (k : ℕ) (s : SourceRow) → source_at n k ≡ s → has_source t s ≡ true
  source-in k Nothing e = refl
  source-in k Env e = refl
  source-in k (OfLeaf q l) e =
      let there = (pin-there n l.0 q k (h.wires.by_pin k l.0 q e)).0 in
      lt-ltb l.0 (length t.leaves) (omega (arith, there, leaves-are, h.rows))
  source-in k (OfEdge a) e =
      let its = h.wires.by_edge k a.0 e in
      lt-ltb a.0 (length n.edges) (slice_get_within n.edges a.0 its.0 its.1)

  led-in : (k : ℕ) (s : SourceRow) → source_at n k ≡ s → is_led t k s ≡ true
  led-in k Nothing e = refl
  led-in k Env e = refl
  led-in k (OfLeaf q l) e = refl
  led-in k (OfEdge a) e =
      let its = h.wires.by_edge k a.0 e in
      eq-eqb (get_or (map (λ (x : EdgeRow). x.to.0) n.edges) a.0 (suc k)) k (map-at (λ (x : EdgeRow). x.to.0) n.edges a.0 its.0 (suc k) its.1 ∙ its.2)

  from-in : (x : EdgeRow) → IsEdge (length n.nodes) x → (f : EdgeFrom) → x.from ≡ f → has_node t f ≡ true
  from-in x ok (FromNode j) e = lt-ltb j.0 (length n.nodes) (ok.begins j.0 e)
  from-in x ok (FromConst b) e = refl

  pin-in : (y : PinNet) (l q : ℕ) → pin_at n l q ≡ y → has_pin t y ≡ true
  pin-in Unconnected l q e = refl
  pin-in (PinConst b) l q e = refl
  pin-in (PinNode k) l q e = lt-ltb k.0 (length n.nodes) (h.wires.pins l q k.0 e)

  pub closed : IsClosed t
  closed = record {
    sources = all-by (λ (x : NodeRow). has_source t x.source) n.nodes (λ k x e. source-in k x.source (source-is k x e));
    led = all-numbered (λ (x : ℕ × NodeRow). is_led t x.0 x.1.source) 0 n.nodes (λ k x e. ap (λ m. is_led t m x.source) (omega-add k) ∙ led-in k x.source (source-is k x e));
    edges = all-by (λ (x : EdgeRow). has_node t x.from && nat_lt x.to.0 (length n.nodes)) n.edges (λ a x e.
        both (has_node t x.from) (nat_lt x.to.0 (length n.nodes)) (from-in x (h.wires.edges a x e) x.from refl) (lt-ltb x.to.0 (length n.nodes) (h.wires.edges a x e).leads));
    pins = all-pins (has_pin t) refl n.rows (λ l q. pin-in (pin_at n l q) l q refl);
    leaves = all-laid (λ (x : Leaf). nat_lt x.inst.0 (length n.instances)) (λ l start. refl) 0 n.rows n.leaves h.leaves;
    instances = h.instances;
  }
    where
      omega-add : (k : ℕ) → 0 + k ≡ k
      omega-add k = omega arith
