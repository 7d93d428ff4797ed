-- The first node that leads to itself is the first net bit that reaches itself through ports and assigns alone.
use Rattle.std.proofs.Common.{◌≡◌, inl, inr, ℕ, zero, suc, ◌<◌, ◌≤◌, Bool, true, false, ◌&&◌, cond, List, [], ◌∷◌, ◌++◌, length, Option, Some, None, refl, sym, ap, ◌∙◌, subst, arith, get_or}
use Rattle.std.specs.Prelude.{map, nat_lt, slice_index_or, MatchOption}
use Rattle.std.specs.List.{All, list_all}
use Rattle.std.proofs.lemmas.Bool.{true≢false, cases_lt, lt-ltb, ltb-true}
use Rattle.std.proofs.lemmas.List.{get_or_append_left, length-append}
use Rattle.std.proofs.lemmas.List.Elements.{All-nil, All-cons}
use Rattle.lp_model.specs.declared.graph.Edge.{Edge}
use Rattle.lp_model.specs.declared.graph.EdgeFrom.{EdgeFrom}
use Rattle.lp_model.specs.declared.graph.EdgeFrom.TheVariants.{Node as FromNode, Const as FromConst}
use Rattle.lp_model.specs.declared.graph.Graph.{Graph}
use Rattle.lp_model.specs.declared.graph.Node.{Node as NodeRow}
use Rattle.lp_model.specs.declared.graph.Source.{Source}
use Rattle.lp_model.specs.declared.graph.Source.TheVariants.{Nothing, Env, Leaf as OfLeaf, Edge as OfEdge}
use Rattle.lp_order.specs.Order.{ReadsBelow, Reaches, HasLoop}
use Rattle.lp_loops.specs.Loops.{IsFirstLooped}
use Rattle.lp_spec_design.specs.Keys.{Fixed}
use Rattle.lp_spec_design.specs.Netlists.{Structure, first, module_at}
use Rattle.lp_spec_design.specs.Nodes.{inner_nodes, outer_in, is_on_its_way}
use Rattle.lp_spec_faults.specs.Lines.{first_of}
use Rattle.lp_spec_faults.specs.Wires.{wire_loop}
use Rattle.lp_spec_bridge.specs.Tables.{Tables, tables_of, has_node, IsClosed}
use Rattle.lp_spec_bridge.specs.Keyed.{keys_of, node_at}
use Rattle.lp_spec_bridge.specs.Elaborates.{Elaborates}
use Rattle.lp_spec_bridge.specs.Walks.{is_looped_by}
use Rattle.lp_spec_bridge.proofs.Loops.{looped_key}
use Rattle.lp_wire_loops.specs.Reads.{from_node, source_reads, wire_reads, inner_node, HasWires, IsFirstLoop, IsWithin}
use Rattle.lp_wire_loops.proofs.Along.{count, looped, loops}

-- ---- what is read is a node

split : (a b : Bool) → (a && b) ≡ true → (a ≡ true) × (b ≡ true)
split true b e = (refl, e)
split false b e = absurd (true≢false (sym e))

module _ (t : Tables) (closed : IsClosed t) where
  abbrev Below : List ℕ → Type 0
  Below row = All (λ k. k < length t.nodes) row

  from_below : (from : EdgeFrom) → has_node t from ≡ true → Below (from_node from)
  from_below (FromNode k) e = All-cons (λ j. j < length t.nodes) k.0 [] (ltb-true k.0 (length t.nodes) e) (All-nil (λ j. j < length t.nodes))
  from_below (FromConst b) e = All-nil (λ j. j < length t.nodes)

  edge_below : (edges : List Edge) (e : ℕ) → list_all (λ (x : Edge). has_node t x.from && nat_lt x.to.0 (length t.nodes)) edges ≡ true → Below (from_node (slice_index_or (map (λ (x : Edge). x.from) edges) e (FromConst true)))
  edge_below [] e all = All-nil (λ j. j < length t.nodes)
  edge_below (x ∷ xs) zero all = from_below x.from (split (has_node t x.from) (nat_lt x.to.0 (length t.nodes)) (split (has_node t x.from && nat_lt x.to.0 (length t.nodes)) (list_all (λ (y : Edge). has_node t y.from && nat_lt y.to.0 (length t.nodes)) xs) all).0).0
  edge_below (x ∷ xs) (suc e) all = edge_below xs e (split (has_node t x.from && nat_lt x.to.0 (length t.nodes)) (list_all (λ (y : Edge). has_node t y.from && nat_lt y.to.0 (length t.nodes)) xs) all).1

  row_below : (x : Source) → Below (source_reads t.edges x)
  row_below Nothing = All-nil (λ j. j < length t.nodes)
  row_below Env = All-nil (λ j. j < length t.nodes)
  row_below (OfLeaf pin leaf) = All-nil (λ j. j < length t.nodes)
  row_below (OfEdge e) = edge_below t.edges e.0 closed.edges

  rows_below : (nodes : List NodeRow) → ReadsBelow (length t.nodes) (wire_reads t.edges nodes)
  rows_below [] = All-nil Below
  rows_below (x ∷ xs) = All-cons Below (source_reads t.edges x.source) (wire_reads t.edges xs) (row_below x.source) (rows_below xs)

pub closed_reads : (g : Graph) (reads : List (List ℕ)) → IsClosed (tables_of g) → reads ≡ wire_reads g.edges g.nodes → ReadsBelow (length reads) reads
closed_reads g reads closed e =
    subst (λ rows. ReadsBelow (length rows) rows) (sym e)
    (subst (λ n. ReadsBelow n (wire_reads g.edges g.nodes)) (sym (count g.edges g.nodes)) (rows_below (tables_of g) closed g.nodes))

-- ---- the first of a list

first_at : {A : Type 0} (p : A → Bool) (xs : List A) (a : ℕ) (d : A) → a < length xs → p (get_or xs a d) ≡ true → ((b : ℕ) → b < a → p (get_or xs b d) ≡ true → ⊥) → first p xs ≡ Some (get_or xs a d)
first_at p [] a d low e never = absurd (omega (arith, low))
first_at p (x ∷ xs) zero d low e never = ap (λ v. cond v (Some x) (first p xs)) e
first_at p (x ∷ xs) (suc a) d low e never = by (p x) refl (first_at p xs a d (omega (arith, low)) e (λ b h. never (suc b) (omega (arith, h))))
  where
    by : (v : Bool) → p x ≡ v → first p xs ≡ Some (get_or xs a d) → cond v (Some x) (first p xs) ≡ Some (get_or xs a d)
    by true is r = absurd (never 0 (omega arith) is)
    by false is r = r

first_none : {A : Type 0} (p : A → Bool) (xs : List A) (d : A) → ((b : ℕ) → b < length xs → p (get_or xs b d) ≡ true → ⊥) → first p xs ≡ None
first_none p [] d never = refl
first_none p (x ∷ xs) d never = by (p x) refl (first_none p xs d (λ b h. never (suc b) (omega (arith, h))))
  where
    by : (v : Bool) → p x ≡ v → first p xs ≡ None → cond v (Some x) (first p xs) ≡ None
    by true is r = absurd (never 0 (omega arith) is)
    by false is r = r

-- ---- net bits by number

module _ (texts : List (List ℕ)) (s : Structure) (t : Tables) (e : Elaborates texts s t) where
  abbrev reads : List (List ℕ)
  reads = wire_reads t.edges t.nodes

  node_here : (k : ℕ) → k < length (inner_nodes s) → get_or (inner_nodes s) k (Fixed false) ≡ node_at (keys_of s) k
  node_here k low = sym (get_or_append_left (inner_nodes s) (outer_in (module_at s [])) (Fixed false) k low)

  in_table : (k : ℕ) → k < length (inner_nodes s) → k < length t.nodes
  in_table k low =
      let size = length-append (inner_nodes s) (outer_in (module_at s [])) in
      let all : length t.nodes ≡ length (inner_nodes s ++ outer_in (module_at s [])) = e.represents.count in
      omega (arith, low, size, all)

  by_number : (k : ℕ) → k < length (inner_nodes s) → is_on_its_way s (get_or (inner_nodes s) k (Fixed false)) ≡ is_looped_by t k
  by_number k low = ap (is_on_its_way s) (node_here k low) ∙ looped_key texts s t e k (in_table k low)

  leads : (k : ℕ) → k < length (inner_nodes s) → is_on_its_way s (get_or (inner_nodes s) k (Fixed false)) ≡ true → Reaches reads k k
  leads k low h = looped t k (sym (by_number k low) ∙ h)

  pub none_first : (HasLoop reads → ⊥) → first_of (wire_loop s) ≡ None
  none_first never = first_none (is_on_its_way s) (inner_nodes s) (Fixed false) (λ b low h. never (b, leads b low h))

  pub is_first : (k : ℕ) → IsFirstLooped reads k → IsFirstLoop s (inner_node (Some k) t.inner)
  is_first k f = by (nat_lt k t.inner) refl
    where
      by : (v : Bool) → nat_lt k t.inner ≡ v → IsFirstLoop s (cond v (Some (record { 0 = k })) None)
      by true h =
          let low : k < length (inner_nodes s) = subst (λ n. k < n) e.inner (ltb-true k t.inner h) in
          ap Some (sym (node_here k low))
          ∙ sym (first_at (is_on_its_way s) (inner_nodes s) k (Fixed false) low (by_number k low ∙ loops t k f.looped) (λ b less x. f.not_before b less (leads b (omega (arith, less, low)) x)))
      by false h =
          let high : t.inner ≤ k = elim (cases_lt k t.inner) [ inl less ↦ absurd (true≢false (sym (lt-ltb k t.inner less) ∙ h)) | inr more ↦ more ] in
          let size : t.inner ≡ length (inner_nodes s) = e.inner in
          sym (first_none (is_on_its_way s) (inner_nodes s) (Fixed false) (λ b low x. f.not_before b (omega (arith, low, high, size)) (leads b low x)))

-- ---- from what the calls ensure

module _ (g : Graph) (graph : List (List ℕ)) (same : graph ≡ wire_reads g.edges g.nodes) (texts : List (List ℕ)) (s : Structure) (w : HasWires texts s g) where
  same_reads : graph ≡ wire_reads w.tables.edges w.tables.nodes
  same_reads = same ∙ (λ i. wire_reads (w.edges i) (w.nodes i))

  pub told_none : (HasLoop graph → ⊥) → IsFirstLoop s None
  told_none never = sym (none_first texts s w.tables w.elaborates (subst (λ r. HasLoop r → ⊥) same_reads never))

  pub told : (o : Option ℕ) → MatchOption o (HasLoop graph → ⊥) (IsFirstLooped graph) → IsFirstLoop s (inner_node o g.inner)
  told None never = told_none never
  told (Some k) f = subst (λ n. IsFirstLoop s (inner_node (Some k) n)) (sym w.inner) (is_first texts s w.tables w.elaborates k (subst (λ r. IsFirstLooped r k) same_reads f))

pub node_within : (o : Option ℕ) (inner : ℕ) → IsWithin inner (inner_node o inner)
node_within None inner = tt
node_within (Some k) inner = by (nat_lt k inner) refl
  where
    by : (v : Bool) → nat_lt k inner ≡ v → IsWithin inner (cond v (Some (record { 0 = k })) None)
    by true h = ltb-true k inner h
    by false h = tt
