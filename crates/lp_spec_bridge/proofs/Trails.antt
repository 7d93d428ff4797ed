-- Ways back by number are those by paths.
use Rattle.std.proofs.Common.{◌≡◌, ◌<◌, ℕ, zero, suc, Bool, true, false, ◌&&◌, List, [], ◌∷◌, ◌++◌, map, length, get_or, Option, Some, None, inl, inr, refl, sym, ap, ◌∙◌, subst, arith}
use Rattle.std.specs.Prelude.{nat_lt, slice_get}
use Rattle.std.specs.List.{list_all}
use Rattle.std.proofs.lemmas.Bool.{ltb-true}
use Rattle.std.proofs.lemmas.List.{append-nil, length-map}
use Rattle.std.proofs.lemmas.Option.{slice_get_cases}
use Rattle.lp_model.specs.LibraryView.{PgPinView, CellView, PinView}
use Rattle.lp_model.specs.declared.graph.Edge.{Edge as EdgeRow}
use Rattle.lp_model.specs.declared.graph.EdgeFrom.{EdgeFrom}
use Rattle.lp_model.specs.declared.graph.EdgeFrom.TheVariants.{Node as FromNode, Const as FromConst}
use Rattle.lp_model.specs.declared.graph.Node.{Node as NodeRow}
use Rattle.lp_model.specs.declared.graph.Source.{Source as SourceRow}
use Rattle.lp_model.specs.declared.graph.Source.TheVariants.{Nothing, Env, Leaf as OfLeaf, Edge as OfEdge}
use Rattle.lp_spec_design.specs.Keys.{Fixed, Source, CellPin, SwitchedPin, From}
use Rattle.lp_spec_design.specs.Netlists.{Structure}
use Rattle.lp_spec_design.specs.Instances.{Placed}
use Rattle.lp_spec_design.specs.Reads.{one, other, both}
use Rattle.lp_spec_design.specs.Graph.{source_of, trail, way_in, going_back, beginning, wire_source}
use Rattle.lp_spec_bridge.specs.Tables.{Tables, has_node, has_source, source_row, edge_from}
use Rattle.lp_spec_bridge.specs.Keyed.{Keyed, way_at, leaf_at}
use Rattle.lp_spec_bridge.specs.Represents.{Represents, from_key, source_key, outputs_in, cell_of}
use Rattle.lp_spec_bridge.specs.Walks.{edge_in, going_by, trail_by, beginning_by, end_by, wire_source_by, step_key}

-- ---- entries of lists

-- an entry of a list that a function maps to another list
pub same-at : {A B C : Type 0} (f : A → C) (g : B → C) (xs : List A) (ys : List B) (k : ℕ) (d : A) (e : B) → map f xs ≡ map g ys → k < length xs → f (get_or xs k d) ≡ g (get_or ys k e)
same-at f g [] ys k d e same h = absurd (omega arith)
same-at f g (x ∷ xs) [] k d e same h = absurd cc
same-at f g (x ∷ xs) (y ∷ ys) zero d e same h = let here : f x ≡ g y = cc in here
same-at f g (x ∷ xs) (y ∷ ys) (suc k) d e same h = let rest : map f xs ≡ map g ys = cc in same-at f g xs ys k d e rest (omega arith)

pub map-map : {A B C : Type 0} (f : B → C) (g : A → B) (xs : List A) → map f (map g xs) ≡ map (λ x. f (g x)) xs
map-map f g [] = refl
map-map f g (x ∷ xs) = ap (λ rest. f (g x) ∷ rest) (map-map f g xs)

pub all-at : {A B : Type 0} (p : B → Bool) (f : A → B) (xs : List A) (k : ℕ) (d : B) → list_all (λ x. p (f x)) xs ≡ true → k < length xs → p (get_or (map f xs) k d) ≡ true
all-at p f [] k d h low = absurd (omega arith)
all-at p f (x ∷ xs) zero d h low = one (p (f x)) (list_all (λ y. p (f y)) xs) h
all-at p f (x ∷ xs) (suc k) d h low = all-at p f xs k d (other (p (f x)) (list_all (λ y. p (f y)) xs) h) (omega arith)

-- ---- what drives a node

-- no list of pins has a way
abbrev HasNoWay : List Source → Type 0
HasNoWay [] = Unit {0}
HasNoWay (x ∷ xs) = (way_in (Some x) ≡ None) × HasNoWay xs

no-way-map : {A : Type 0} (f : A → Source) (xs : List A) (rest : List Source) → ((a : A) → way_in (Some (f a)) ≡ None) → HasNoWay rest → HasNoWay (map f xs ++ rest)
no-way-map f [] rest h r = r
no-way-map f (x ∷ xs) rest h r = (h x, no-way-map f xs rest h r)

no-way-entry : (xs : List Source) (k : ℕ) (d : Source) → HasNoWay xs → k < length xs → way_in (Some (get_or xs k d)) ≡ None
no-way-entry [] k d h low = absurd (omega arith)
no-way-entry (x ∷ xs) zero d h low = h.0
no-way-entry (x ∷ xs) (suc k) d h low = no-way-entry xs k d h.1 (omega arith)

no-way-at : (xs : List Source) (k : ℕ) → HasNoWay xs → way_in (slice_get xs k) ≡ None
no-way-at xs k h = elim (slice_get_cases xs k).1 [
  | inl found ↦ ap way_in found.2 ∙ ap (λ x. way_in (Some x)) (sym found.3) ∙ no-way-entry xs k found.0 h found.1
  | inr past ↦ ap way_in past.1
]

outputs-no-way : (a : Placed) (c : Option CellView) → HasNoWay (outputs_in a c)
outputs-no-way a None = tt
outputs-no-way a (Some c) =
    no-way-map (λ (q : PinView). CellPin a.path a.instance q.name) c.pins (map (λ (g : PgPinView). SwitchedPin a.path a.instance g.name) c.pgs) (λ q. refl)
    (subst HasNoWay (append-nil (map (λ (g : PgPinView). SwitchedPin a.path a.instance g.name) c.pgs)) (no-way-map (λ (g : PgPinView). SwitchedPin a.path a.instance g.name) c.pgs [] (λ g. refl) tt))

module _ (s : Structure) (ks : Keyed) (t : Tables) (r : Represents s ks t) where
  -- the source of a node by number is its source by path
  pub source-at : (k : EdgeFrom) → has_node t k ≡ true → source_key s ks t (source_row t k) ≡ source_of s (from_key ks k)
  source-at (FromConst b) h = refl
  source-at (FromNode k) h =
      let low : k.0 < length t.nodes = ltb-true k.0 (length t.nodes) h in
      let rows = map (λ (x : NodeRow). x.source) t.nodes in
      same-at (source_key s ks t) (source_of s) rows ks.nodes k.0 Nothing (Fixed false) (map-map (source_key s ks t) (λ (x : NodeRow). x.source) t.nodes ∙ r.sources) (omega (arith, length-map t.nodes (λ (x : NodeRow). x.source)))

  -- the numbers in a node's source are in range
  pub source-in : (k : EdgeFrom) → has_node t k ≡ true → has_source t (source_row t k) ≡ true
  source-in (FromConst b) h = refl
  source-in (FromNode k) h = all-at (has_source t) (λ (x : NodeRow). x.source) t.nodes k.0 Nothing r.closed.sources (ltb-true k.0 (length t.nodes) h)

  -- an edge comes from a node of the tables
  pub from-in : (e : ℕ) → nat_lt e (length t.edges) ≡ true → has_node t (edge_from t e) ≡ true
  from-in e h = all-at (has_node t) (λ (x : EdgeRow). x.from) t.edges e (FromConst true) (firsts t.edges r.closed.edges) (ltb-true e (length t.edges) h)
    where
      firsts : (xs : List EdgeRow) → list_all (λ (x : EdgeRow). has_node t x.from && nat_lt x.to.0 (length t.nodes)) xs ≡ true → list_all (λ (x : EdgeRow). has_node t x.from) xs ≡ true
      firsts [] g = refl
      firsts (x ∷ xs) g =
          let rest = list_all (λ (y : EdgeRow). has_node t y.from && nat_lt y.to.0 (length t.nodes)) xs in
          let here = has_node t x.from in
          let there = nat_lt x.to.0 (length t.nodes) in
          both here (list_all (λ (y : EdgeRow). has_node t y.from) xs) (one here there (one (here && there) rest g)) (firsts xs (other (here && there) rest g))

  pub trail_key : (fuel : ℕ) (k : EdgeFrom) → has_node t k ≡ true → map (step_key ks) (trail_by t fuel k) ≡ trail s fuel (from_key ks k)
  trail_key zero k h = refl
  trail_key (suc fuel) k h = by (source_row t k) refl (source-at k h) (source-in k h) (λ e g. trail_key fuel (edge_from t e) (from-in e g))
    where
      by : (x : SourceRow) → source_row t k ≡ x → source_key s ks t (source_row t k) ≡ source_of s (from_key ks k) → has_source t (source_row t k) ≡ true
          → ((e : ℕ) → nat_lt e (length t.edges) ≡ true → map (step_key ks) (trail_by t fuel (edge_from t e)) ≡ trail s fuel (from_key ks (edge_from t e)))
          → map (step_key ks) (going_by t (λ j. trail_by t fuel j) (edge_in (source_row t k))) ≡ going_back (λ j. trail s fuel j) (way_in (source_of s (from_key ks k)))
      by Nothing e is closed more = rw (e, ← is, e) refl
      by Env e is closed more = rw (e, ← is, e) refl
      by (OfLeaf pin leaf) e is closed more =
          let row : edge_in (source_row t k) ≡ None = ap edge_in e in
          let key : way_in (source_of s (from_key ks k)) ≡ None =
          ap way_in (sym is ∙ ap (source_key s ks t) e) ∙ no-way-at (outputs_in (leaf_at ks leaf.0) (cell_of s t leaf.0)) pin (outputs-no-way (leaf_at ks leaf.0) (cell_of s t leaf.0)) in
          rw (row, key) refl
      by (OfEdge n) e is closed more =
          let row : edge_in (source_row t k) ≡ Some n.0 = ap edge_in e in
          let key : source_of s (from_key ks k) ≡ Some (From (way_at ks n.0) (from_key ks (edge_from t n.0))) = sym is ∙ ap (source_key s ks t) e in
          let rest = more n.0 (sym (ap (has_source t) e) ∙ closed) in
          rw (row, key, rest) refl

  pub end-key : (steps : List (ℕ × EdgeFrom)) (k : EdgeFrom) → from_key ks (beginning_by k steps) ≡ beginning (from_key ks k) (map (step_key ks) steps)
  end-key [] k = refl
  end-key (x ∷ xs) k = end-key xs x.1

  -- a way back leads to a node of the tables
  pub end-in : (fuel : ℕ) (k : EdgeFrom) → has_node t k ≡ true → has_node t (end_by t fuel k) ≡ true
  end-in zero k h = h
  end-in (suc fuel) k h = by (source_row t k) refl (source-in k h) (λ e g. end-in fuel (edge_from t e) (from-in e g))
    where
      by : (x : SourceRow) → source_row t k ≡ x → has_source t (source_row t k) ≡ true
          → ((e : ℕ) → nat_lt e (length t.edges) ≡ true → has_node t (end_by t fuel (edge_from t e)) ≡ true)
          → has_node t (beginning_by k (going_by t (λ j. trail_by t fuel j) (edge_in (source_row t k)))) ≡ true
      by Nothing e closed more = rw e h
      by Env e closed more = rw e h
      by (OfLeaf pin leaf) e closed more = rw e h
      by (OfEdge n) e closed more = rw e (more n.0 (sym (ap (has_source t) e) ∙ closed))

  pub end_by_number : (fuel : ℕ) (k : EdgeFrom) → has_node t k ≡ true → from_key ks (end_by t fuel k) ≡ beginning (from_key ks k) (trail s fuel (from_key ks k))
  end_by_number fuel k h = end-key (trail_by t fuel k) k ∙ ap (beginning (from_key ks k)) (trail_key fuel k h)

  pub wire_source_key : (fuel : ℕ) (k : EdgeFrom) → has_node t k ≡ true → source_key s ks t (wire_source_by t fuel k) ≡ wire_source s fuel (from_key ks k)
  wire_source_key fuel k h = source-at (end_by t fuel k) (end-in fuel k h) ∙ ap (source_of s) (end_by_number fuel k h)
