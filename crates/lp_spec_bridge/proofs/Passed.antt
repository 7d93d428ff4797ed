-- Loops and ways passed, cells and pins: by number as by paths.
use Rattle.std.proofs.Common.{◌≡◌, ◌<◌, ℕ, zero, suc, Bool, true, false, ◌&&◌, ◌==◌, List, [], map, length, Option, Some, None, inl, inr, refl, sym, ap, ◌∙◌, arith}
use Rattle.std.specs.Prelude.{nat_lt, slice_get, option_and_then}
use Rattle.std.specs.List.{list_all, list_any}
use Rattle.std.proofs.lemmas.Bool.{ltb-true}
use Rattle.std.proofs.lemmas.Option.{slice_get_within, get_or_from_slice_get, slice_get_cases}
use Rattle.lp_model.specs.declared.graph.EdgeFrom.{EdgeFrom}
use Rattle.lp_model.specs.declared.graph.EdgeFrom.TheVariants.{Node as FromNode, Const as FromConst}
use Rattle.lp_model.specs.declared.graph.Leaf.{Leaf}
use Rattle.lp_model.specs.declared.graph.Source.{Source as SourceRow}
use Rattle.lp_model.specs.declared.graph.Source.TheVariants.{Nothing, Env, Leaf as OfLeaf, Edge as OfEdge}
use Rattle.lp_spec_design.specs.Keys.{Fixed, AssignBit, same_node, same_way}
use Rattle.lp_spec_design.specs.Netlists.{Structure, cell_at}
use Rattle.lp_spec_design.specs.Instances.{Placed}
use Rattle.lp_spec_design.specs.Graph.{trail, passes}
use Rattle.lp_spec_design.specs.Reads.{one, other, both, node-true, node-self}
use Rattle.lp_spec_bridge.specs.Tables.{Tables, has_node, has_source, source_row, edge_from}
use Rattle.lp_spec_bridge.specs.Keyed.{Keyed, AreKeys, is_net_bit, node_at, way_at, leaf_at}
use Rattle.lp_spec_bridge.specs.Represents.{Represents, from_key, cell_of, row_of, pin_key, nodes_at_pins}
use Rattle.lp_spec_bridge.specs.Walks.{edge_in, going_by, trail_by, passes_by, is_number, is_on_its_way_by, step_key}
use Rattle.lp_spec_bridge.proofs.Apart.{list-at, same-places, way-true, way-self, not-fixed, any-image}
use Rattle.lp_spec_bridge.proofs.Trails.{same-at, source-in, from-in, trail_key}

none-past : {A : Type 0} (xs : List A) (j : ℕ) → slice_get xs j ≡ None → j < length xs → ⊥
none-past xs j e g = elim (slice_get_cases xs j).1 [ inl found ↦ let no : None ≡ Some found.0 = sym e ∙ found.2 in cc | inr past ↦ omega (arith, past.0) ]

-- a step whose edge and node are in range
abbrev pub has_step : Tables → ℕ × EdgeFrom → Bool
has_step t step = nat_lt step.0 (length t.edges) && has_node t step.1

module _ (s : Structure) (ks : Keyed) (t : Tables) (r : Represents s ks t) where
  pub steps-in : (fuel : ℕ) (k : EdgeFrom) → has_node t k ≡ true → list_all (has_step t) (trail_by t fuel k) ≡ true
  steps-in zero k h = refl
  steps-in (suc fuel) k h = by (source_row t k) refl (source-in s ks t r k h) (λ e g. steps-in fuel (edge_from t e) (from-in s ks t r e g))
    where
      by : (x : SourceRow) → source_row t k ≡ x → has_source t (source_row t k) ≡ true
          → ((e : ℕ) → nat_lt e (length t.edges) ≡ true → list_all (has_step t) (trail_by t fuel (edge_from t e)) ≡ true)
          → list_all (has_step t) (going_by t (λ j. trail_by t fuel j) (edge_in (source_row t k))) ≡ true
      by Nothing e closed more = rw e refl
      by Env e closed more = rw e refl
      by (OfLeaf pin leaf) e closed more = rw e refl
      by (OfEdge n) e closed more =
          let low : nat_lt n.0 (length t.edges) ≡ true = sym (ap (has_source t) e) ∙ closed in
          let here = both (nat_lt n.0 (length t.edges)) (has_node t (edge_from t n.0)) low (from-in s ks t r n.0 low) in
          rw e (both (has_step t (n.0, edge_from t n.0)) (list_all (has_step t) (trail_by t fuel (edge_from t n.0))) here (more n.0 low))

  pub passes_key : AreKeys ks → (fuel e : ℕ) (k : EdgeFrom) → e < length t.edges → has_node t k ≡ true → passes s fuel (way_at ks e) (from_key ks k) ≡ passes_by t fuel e k
  passes_key keys fuel e k low h =
      ap (list_any (λ step. same_way step.0 (way_at ks e))) (sym (trail_key s ks t r fuel k h))
      ∙ any-image (λ step. same_way step.0 (way_at ks e)) (λ step. step.0 == e) (has_step t) (step_key ks) agree (trail_by t fuel k) (steps-in fuel k h)
    where
      agree : (x : ℕ × EdgeFrom) → has_step t x ≡ true → same_way (way_at ks x.0) (way_at ks e) ≡ (x.0 == e)
      agree x ok =
          let under : x.0 < length t.edges = ltb-true x.0 (length t.edges) (one (nat_lt x.0 (length t.edges)) (has_node t x.1) ok) in
          same-places same_way way-true way-self ks.ways x.0 e (AssignBit [] 0 0) keys.ways (omega (arith, r.ways)) (omega (arith, r.ways))

  pub loop_key : AreKeys ks → (fuel k : ℕ) (from : EdgeFrom) → k < length t.nodes → has_node t from ≡ true → list_any (λ step. same_node step.1 (node_at ks k)) (trail s fuel (from_key ks from)) ≡ is_on_its_way_by t fuel k from
  loop_key keys fuel k from low h =
      ap (list_any (λ step. same_node step.1 (node_at ks k))) (sym (trail_key s ks t r fuel from h))
      ∙ any-image (λ step. same_node step.1 (node_at ks k)) (λ step. is_number k step.1) (has_step t) (step_key ks) agree (trail_by t fuel from) (steps-in fuel from h)
    where
      at : (f : EdgeFrom) → has_node t f ≡ true → same_node (from_key ks f) (node_at ks k) ≡ is_number k f
      at (FromConst b) ok = not-fixed b (node_at ks k) (list-at is_net_bit ks.nodes k (Fixed false) keys.net_bits (omega (arith, r.count)))
      at (FromNode j) ok =
          let under : j.0 < length t.nodes = ltb-true j.0 (length t.nodes) ok in
          same-places same_node node-true node-self ks.nodes j.0 k (Fixed false) keys.nodes (omega (arith, r.count)) (omega (arith, r.count))

      agree : (x : ℕ × EdgeFrom) → has_step t x ≡ true → same_node (from_key ks x.1) (node_at ks k) ≡ is_number k x.1
      agree x ok = at x.1 (other (nat_lt x.0 (length t.edges)) (has_node t x.1) ok)

  pub cell-entry : (k : ℕ) (l : Leaf) → slice_get t.leaves k ≡ Some l → slice_get s.cells l.cell.0 ≡ cell_at s (leaf_at ks k).path (leaf_at ks k).instance
  cell-entry k l e =
      let low : k < length t.leaves = slice_get_within t.leaves k l e in
      ap (λ (x : Leaf). slice_get s.cells x.cell.0) (sym (get_or_from_slice_get t.leaves k l l e))
      ∙ same-at (λ (x : Leaf). slice_get s.cells x.cell.0) (λ (a : Placed). cell_at s a.path a.instance) t.leaves ks.leaves k l (record { path = []; instance = [] }) r.cells low

  pub pins_key : (k : ℕ) (l : Leaf) → slice_get t.leaves k ≡ Some l → map (pin_key ks) (row_of s t l) ≡ nodes_at_pins s (leaf_at ks k) (cell_at s (leaf_at ks k).path (leaf_at ks k).instance)
  pins_key k l e =
      let low : k < length t.leaves = slice_get_within t.leaves k l e in
      ap (λ (x : Leaf). map (pin_key ks) (row_of s t x)) (sym (get_or_from_slice_get t.leaves k l l e))
      ∙ same-at (λ (x : Leaf). map (pin_key ks) (row_of s t x)) (λ (a : Placed). nodes_at_pins s a (cell_at s a.path a.instance)) t.leaves ks.leaves k l (record { path = []; instance = [] }) r.pins low

  pub cell_key : (k : ℕ) → k < length t.leaves → cell_of s t k ≡ cell_at s (leaf_at ks k).path (leaf_at ks k).instance
  cell_key k low = by (slice_get t.leaves k) refl
    where
      by : (o : Option Leaf) → slice_get t.leaves k ≡ o → cell_of s t k ≡ cell_at s (leaf_at ks k).path (leaf_at ks k).instance
      by (Some l) e = ap (option_and_then (λ (x : Leaf). slice_get s.cells x.cell.0)) e ∙ cell-entry k l e
      by None e = absurd (none-past t.leaves k e low)
