-- A node is on its own way back exactly where its number leads to itself by reads.
use Rattle.std.proofs.Common.{◌≡◌, inl, inr, ℕ, zero, suc, ◌<◌, ◌==◌, Bool, true, false, ◌||◌, List, [], ◌∷◌, length, refl, sym, ap, ◌∙◌, subst, arith}
use Rattle.std.specs.Prelude.{map, slice_index_or}
use Rattle.std.specs.List.{Contains, list_any}
use Rattle.std.proofs.lemmas.Bool.{true≢false, eqb-true, eq-eqb}
use Rattle.lp_model.specs.declared.graph.Edge.{Edge}
use Rattle.lp_model.specs.declared.graph.EdgeFrom.{EdgeFrom}
use Rattle.lp_model.specs.declared.graph.EdgeFrom.TheVariants.{Node as FromNode, Const as FromConst}
use Rattle.lp_model.specs.declared.graph.Node.{Node as NodeRow}
use Rattle.lp_model.specs.declared.graph.Source.{Source}
use Rattle.lp_model.specs.declared.graph.Source.TheVariants.{Nothing, Env, Leaf as OfLeaf, Edge as OfEdge}
use Rattle.lp_order.specs.Order.{row_of, Reads, Reaches, one_read, more_reads}
use Rattle.lp_order.proofs.OrderLaws.{Contains-first, Contains-cons_cases}
use Rattle.lp_loops.proofs.Ways.{IsWay, short_way}
use Rattle.lp_spec_bridge.specs.Tables.{Tables, source_row, edge_from}
use Rattle.lp_spec_bridge.specs.Walks.{edge_in, going_by, trail_by, is_number, is_on_its_way_by, is_looped_by}
use Rattle.lp_wire_loops.specs.Reads.{from_node, source_reads, wire_reads}

pub count : (edges : List Edge) (nodes : List NodeRow) → length (wire_reads edges nodes) ≡ length nodes
count edges [] = refl
count edges (x ∷ xs) = ap suc (count edges xs)

row_at : (edges : List Edge) (nodes : List NodeRow) (k : ℕ) → row_of (wire_reads edges nodes) k ≡ source_reads edges (slice_index_or (map (λ (x : NodeRow). x.source) nodes) k Nothing)
row_at edges [] k = refl
row_at edges (x ∷ xs) zero = refl
row_at edges (x ∷ xs) (suc k) = row_at edges xs k

module _ (t : Tables) where
  abbrev reads : List (List ℕ)
  reads = wire_reads t.edges t.nodes

  -- a row of one read
  alone : (n j : ℕ) → Contains (n ∷ []) j → j ≡ n
  alone n j c = elim (Contains-cons_cases n [] j c) [ inl is ↦ sym is | inr there ↦ absurd (omega (arith, there.1)) ]

  nothing : (j : ℕ) → Contains [] j → ⊥
  nothing j c = omega (arith, c.1)

  -- what a way back from a node meets, by its source
  abbrev meets : ℕ → ℕ → Source → Bool
  meets a fuel x = list_any (λ (step : ℕ × EdgeFrom). is_number a step.1) (going_by t (λ j. trail_by t fuel j) (edge_in x))

  -- one step to a node that is read
  step : (a fuel j : ℕ) (x : Source) → Contains (source_reads t.edges x) j → ((j == a) || is_on_its_way_by t fuel a (FromNode (record { 0 = j }))) ≡ true → meets a fuel x ≡ true
  step a fuel j Nothing c e = absurd (nothing j c)
  step a fuel j Env c e = absurd (nothing j c)
  step a fuel j (OfLeaf pin leaf) c e = absurd (nothing j c)
  step a fuel j (OfEdge w) c e = by (edge_from t w.0) c
    where
      by : (from : EdgeFrom) → Contains (from_node from) j → (is_number a from || is_on_its_way_by t fuel a from) ≡ true
      by (FromConst b) c = absurd (nothing j c)
      by (FromNode n) c = subst (λ (i : ℕ). ((i == a) || is_on_its_way_by t fuel a (FromNode (record { 0 = i }))) ≡ true) (alone n.0 j c) e

  at_constant : (a fuel : ℕ) (b : Bool) → is_on_its_way_by t fuel a (FromConst b) ≡ false
  at_constant a zero b = refl
  at_constant a (suc fuel) b = refl

  -- a node that is met is read
  back : (a fuel : ℕ) (x : Source) → meets a fuel x ≡ true → (j : ℕ) × Contains (source_reads t.edges x) j × (((j == a) || is_on_its_way_by t fuel a (FromNode (record { 0 = j }))) ≡ true)
  back a fuel Nothing e = absurd (true≢false (sym e))
  back a fuel Env e = absurd (true≢false (sym e))
  back a fuel (OfLeaf pin leaf) e = absurd (true≢false (sym e))
  back a fuel (OfEdge w) e = by (edge_from t w.0) e
    where
      by : (from : EdgeFrom) → (is_number a from || is_on_its_way_by t fuel a from) ≡ true → (j : ℕ) × Contains (from_node from) j × (((j == a) || is_on_its_way_by t fuel a (FromNode (record { 0 = j }))) ≡ true)
      by (FromNode n) h = (n.0, Contains-first n.0 [] n.0 refl, h)
      by (FromConst b) h = absurd (true≢false (sym h ∙ at_constant a fuel b))

  along : (fuel : ℕ) (js : List ℕ) (b a : ℕ) → IsWay reads b js a → length js < fuel → is_on_its_way_by t fuel a (FromNode (record { 0 = b })) ≡ true
  along zero js b a w h = absurd (omega (arith, h))
  along (suc fuel) [] b a w h =
      step a fuel a (source_row t (FromNode (record { 0 = b }))) (subst (λ row. Contains row a) (row_at t.edges t.nodes b) w) (ap (λ v. v || is_on_its_way_by t fuel a (FromNode (record { 0 = a }))) (eq-eqb a a refl))
  along (suc fuel) (j ∷ js) b a w h =
      step a fuel j (source_row t (FromNode (record { 0 = b }))) (subst (λ row. Contains row j) (row_at t.edges t.nodes b) w.0) (or_true (j == a) (is_on_its_way_by t fuel a (FromNode (record { 0 = j }))) (along fuel js j a w.1 (omega (arith, h))))
    where
      or_true : (v u : Bool) → u ≡ true → (v || u) ≡ true
      or_true true u e = refl
      or_true false u e = e

  reaches : (fuel b a : ℕ) → is_on_its_way_by t fuel a (FromNode (record { 0 = b })) ≡ true → Reaches reads b a
  reaches zero b a e = absurd (true≢false (sym e))
  reaches (suc fuel) b a e =
      let found = back a fuel (source_row t (FromNode (record { 0 = b }))) e in
      let read : Reads reads b found.0 = subst (λ row. Contains row found.0) (sym (row_at t.edges t.nodes b)) found.1 in
      by found.0 read (found.0 == a) refl found.2 (reaches fuel found.0 a)
    where
      by : (j : ℕ) → Reads reads b j → (v : Bool) → (j == a) ≡ v → (v || is_on_its_way_by t fuel a (FromNode (record { 0 = j }))) ≡ true → (is_on_its_way_by t fuel a (FromNode (record { 0 = j })) ≡ true → Reaches reads j a) → Reaches reads b a
      by j read true is h go = one_read (subst (λ x. Reads reads b x) (eqb-true j a is) read)
      by j read false is h go = more_reads read (go h)

  pub looped : (k : ℕ) → is_looped_by t k ≡ true → Reaches reads k k
  looped k e = reaches (length t.nodes) k k e

  pub loops : (k : ℕ) → Reaches reads k k → is_looped_by t k ≡ true
  loops k r =
      let brief = short_way reads k k r in
      along (length t.nodes) brief.0 k k brief.1 (subst (λ n. length brief.0 < n) (count t.edges t.nodes) brief.2)
