-- Sides and registers by number are those by paths.
use Rattle.std.proofs.Common.{◌≡◌, ◌<◌, ◌+◌, ◌==◌, ℕ, zero, suc, Bool, true, false, ◌&&◌, ◌||◌, List, [], ◌∷◌, map, length, get_or, take, Option, Some, None, inl, inr, refl, sym, ap, ◌∙◌, subst, arith}
use Rattle.std.specs.Prelude.{is_some, not, nat_lt, slice_get}
use Rattle.std.proofs.lemmas.Bool.{true≢false, ltb-true, cases_lt}
use Rattle.std.proofs.lemmas.List.{get_or_past, length-append}
use Rattle.std.proofs.lemmas.Option.{slice_get_within, slice_get_past, slice_get-get_or, get_or_from_slice_get}
use Rattle.lp_text.specs.Texts.{text_at}
use Rattle.lp_model.specs.declared.graph.CellShape.{CellShape}
use Rattle.lp_model.specs.declared.graph.Graph.{Graph}
use Rattle.lp_model.specs.declared.graph.Inst.{Inst}
use Rattle.lp_model.specs.declared.graph.Leaf.{Leaf as LeafRow}
use Rattle.lp_model.specs.declared.graph.Node.{Node as NodeRow}
use Rattle.lp_model.specs.declared.graph.NodeName.{NodeName}
use Rattle.lp_model.specs.declared.graph.NodeName.TheVariants.{Scalar, Bit, Added}
use Rattle.lp_model.specs.declared.ids.InstId.{InstId}
use Rattle.lp_model.specs.declared.intent.Intent as model
use Rattle.lp_model.specs.LibraryView.{CellView}
use Rattle.lp_spec_design.specs.Keys.{Path, Fixed}
use Rattle.lp_spec_design.specs.Netlists.{Structure, module_at, cell_at}
use Rattle.lp_spec_design.specs.Instances.{Placed, module_instances, cell_instances}
use Rattle.lp_spec_design.specs.Nodes.{inner_nodes, outer_in, nodes_of}
use Rattle.lp_spec_design.specs.Domains.{same_domain, is_boundary}
use Rattle.lp_spec_design.specs.Winners.{IsIn}
use Rattle.lp_spec_bridge.specs.Tables.{Tables, tables_of, is_behind}
use Rattle.lp_spec_bridge.specs.Keyed.{keys_of, is_net_bit, node_at, leaf_at, path_at}
use Rattle.lp_spec_bridge.specs.Elaborates.{path_in, Elaborates, inner_key, placed_key, row_shape, shape_of}
use Rattle.lp_spec_bridge.proofs.Apart.{in-at, list-at}
use Rattle.lp_spec_bridge.proofs.Passed.{cell-entry}
use Rattle.lp_spec_bridge.proofs.Trails.{same-at}
use Rattle.lp_spec_realises.specs.Projects.{Project}
use Rattle.lp_spec_faults.specs.Strategies.{has_state, has_side, is_of_domain}
use Rattle.lp_spec_views.specs.Views.{bit_element}
use Rattle.lp_domains.specs.Boundary.{is_other}
use Rattle.lp_domains.proofs.Meetings.{nowhere, count, path-here, domain-here, boundary-here, behind-at}
use Rattle.lp_domains.proofs.Joints.{of-map-get, take-get, node-here}
use Rattle.lp_strategy.specs.Sides.{is_of, has_side_of, has_side_in, has_side_at, has_side_by, has_side_around, has_state_by, is_register_by, is_register_of}
use Rattle.lp_strategy.specs.Claims.{IsGiven}
use Rattle.lp_strategy.proofs.Placed.{path_of}

-- ---- cells by their shapes

state-by : (xs : List CellShape) (ys : List CellView) → map row_shape xs ≡ map shape_of ys → (k : ℕ) → has_state_by (slice_get xs k) ≡ has_state (slice_get ys k)
state-by [] [] h k = refl
state-by [] (y ∷ ys) h k = absurd cc
state-by (x ∷ xs) [] h k = absurd cc
state-by (x ∷ xs) (y ∷ ys) h zero = let here : row_shape x ≡ shape_of y = cc in ap (λ z. z.2) here
state-by (x ∷ xs) (y ∷ ys) h (suc k) = let rest : map row_shape xs ≡ map shape_of ys = cc in state-by xs ys rest k

-- the top is the first instance
top-first : (s : Structure) → slice_get (module_instances s) 0 ≡ Some []
unfolding module_instances
top-first s = refl

-- ---- names of net bits

named-bit : (texts : List (List ℕ)) (q : Path) (name : NodeName) → is_net_bit (inner_key texts q name) ≡ true → path_of (bit_element (inner_key texts q name)) ≡ q
unfolding path_of
named-bit texts q (Scalar n) h = refl
named-bit texts q (Bit n j) h = refl
named-bit texts q (Added w) h = absurd (true≢false (sym h))

module _ (p : Project) (i : model.Intent) (g : Graph) (domains : List ℕ) (given : IsGiven p i g domains) where
  abbrev s : Structure
  s = p.structure

  abbrev t : Tables
  t = tables_of g

  abbrev e : Elaborates given.texts p.structure (tables_of g)
  e = given.elaborates

  -- ---- instances

  pub size : length (module_instances p.structure) ≡ length g.instances
  size = count given.texts s t e p.intent domains given.members.domains

  top-at : path_at (keys_of p.structure) 0 ≡ []
  top-at = get_or_from_slice_get (module_instances p.structure) 0 [] [] (top-first p.structure)

  some-instances : 0 < length g.instances
  some-instances = let low = slice_get_within (module_instances p.structure) 0 [] (top-first p.structure) in subst (λ n. 0 < n) size low

  pub path-in : (k : ℕ) → IsIn (path_at (keys_of p.structure) k) (module_instances p.structure)
  path-in k = elim (cases_lt k (length (module_instances p.structure))) [
    | inl low ↦ in-at (module_instances p.structure) k [] low
    | inr high ↦
        let first = in-at (module_instances p.structure) 0 [] (slice_get_within (module_instances p.structure) 0 [] (top-first p.structure)) in
        subst (λ q. IsIn q (module_instances p.structure)) (top-at ∙ sym (get_or_past (module_instances p.structure) k [] high)) first
  ]

  pub of-key : (d k : ℕ) → k < length g.instances → is_of domains d k ≡ is_of_domain p d (path_at (keys_of p.structure) k)
  of-key d k low = ap (λ (o : Option ℕ). is_some o && same_domain o (Some d)) (domain-here given.texts s t e p.intent domains given.members.domains k low)

  top-key : (d : ℕ) → is_of domains d 0 ≡ is_of_domain p d []
  top-key d = of-key d 0 some-instances ∙ ap (is_of_domain p d) top-at

  abbrev sided : ℕ → Path → Bool
  sided d q = is_boundary p.intent q && has_side p d q

  row-key : (d k : ℕ) (x : Inst) → slice_get g.instances k ≡ Some x → (parent : Option InstId) → x.parent ≡ parent → has_side_in domains d k parent ≡ sided d (path_at (keys_of p.structure) k)
  row-key d k x h None up =
      let here : path_at (keys_of p.structure) k ≡ [] = path-here given.texts s t e p.intent domains given.members.domains k x h ∙ up-none x.parent up in
      of-key d k (slice_get_within g.instances k x h) ∙ ap (is_of_domain p d) here ∙ ap (sided d) (sym here)
    where
      up-none : (o : Option InstId) → o ≡ None → path_in given.texts (module_instances p.structure) x.name.0 o ≡ []
      up-none None r = refl
      up-none (Some q) r = absurd cc
  row-key d k x h (Some q) up =
      let low = slice_get_within g.instances k x h in
      let here : path_at (keys_of p.structure) k ≡ text_at given.texts x.name.0 ∷ path_at (keys_of p.structure) q.0 =
      path-here given.texts s t e p.intent domains given.members.domains k x h ∙ ap (path_in given.texts (module_instances p.structure) x.name.0) up in
      let front : k ≡ 0 + k = omega arith in
      let behind : is_behind k (Some q) ≡ true = ap (is_behind k) (sym up) ∙ ap (λ n. is_behind n x.parent) front ∙ behind-at 0 g.instances k x h e.represents.closed.instances in
      let above : q.0 < length g.instances = omega (arith, low, ltb-true q.0 k behind) in
      let differs : not (get_or domains k 0 == get_or domains q.0 0) ≡ is_boundary p.intent (path_at (keys_of p.structure) k) =
      ap (is_other domains (get_or domains k 0)) (sym up) ∙ boundary-here given.texts s t e p.intent domains given.members.domains k x h in
      let own = of-key d k low ∙ ap (is_of_domain p d) here in
      let over = of-key d q.0 above in
      (λ r. (differs ∙ ap (is_boundary p.intent) here) r && (own r || over r)) ∙ ap (sided d) (sym here)

  pub side-key : (d k : ℕ) → has_side_at g.instances domains d k ≡ sided d (path_at (keys_of p.structure) k)
  side-key d k = elim (cases_lt k (length g.instances)) [
    | inl low ↦
        let there = slice_get-get_or g.instances k nowhere low in
        ap (has_side_of domains d k) there ∙ row-key d k (get_or g.instances k nowhere) there (get_or g.instances k nowhere).parent refl
    | inr high ↦
        let past : path_at (keys_of p.structure) k ≡ [] = get_or_past (module_instances p.structure) k [] (omega (arith, high, size)) in
        ap (has_side_of domains d k) (slice_get_past g.instances k high) ∙ top-key d ∙ ap (sided d) (sym past)
  ]

  -- ---- net bits

  bit-row : (k : ℕ) → k < g.inner → (row : NodeRow) × (slice_get g.nodes k ≡ Some row) × (path_of (bit_element (node_at (keys_of p.structure) k)) ≡ path_at (keys_of p.structure) row.inst.0)
  bit-row k low =
      let small : k < length (inner_nodes p.structure) = subst (λ n. k < n) e.inner low in
      let there : slice_get (inner_nodes p.structure) k ≡ Some (node_at (keys_of p.structure) k) = slice_get-get_or (inner_nodes p.structure) k (Fixed false) small ∙ ap (λ z. Some z) (node-here given.texts s t e given.apart p.intent k small) in
      let row = of-map-get (λ (x : NodeRow). inner_key given.texts (get_or (module_instances p.structure) x.inst.0 []) x.name) (take g.inner g.nodes) k (node_at (keys_of p.structure) k) (ap (λ xs. slice_get xs k) e.inner_bits ∙ there) in
      let net : is_net_bit (node_at (keys_of p.structure) k) ≡ true = list-at is_net_bit (nodes_of p.structure) k (Fixed false) e.apart.net_bits (omega (arith, small, length-append (inner_nodes p.structure) (outer_in (module_at p.structure [])))) in (
        row.0,
        take-get g.inner g.nodes k row.0 row.1,
        ap (λ z. path_of (bit_element z)) (sym row.2) ∙ named-bit given.texts (get_or (module_instances p.structure) row.0.inst.0 []) row.0.name (ap is_net_bit row.2 ∙ net),
      )

  pub bit-key : (d k : ℕ) → k < g.inner → (has_side_around g domains d k ≡ sided d (path_of (bit_element (node_at (keys_of p.structure) k)))) × IsIn (path_of (bit_element (node_at (keys_of p.structure) k))) (module_instances p.structure)
  bit-key d k low =
      let row = bit-row k low in
      (ap (has_side_by g.instances domains d) row.1 ∙ side-key d row.0.inst.0 ∙ ap (sided d) (sym row.2), subst (λ q. IsIn q (module_instances p.structure)) (sym row.2) (path-in row.0.inst.0))

  -- ---- cell instances

  abbrev no_leaf : LeafRow
  no_leaf = record { inst = record { 0 = 0 }; name = record { 0 = 0 }; cell = record { 0 = 0 }; start = 0 }

  pub leaf-key : (d k : ℕ) → k < length g.leaves → is_register_of g domains d k ≡ (is_of_domain p d (leaf_at (keys_of p.structure) k).path && has_state (cell_at p.structure (leaf_at (keys_of p.structure) k).path (leaf_at (keys_of p.structure) k).instance))
  leaf-key d k low =
      let row : LeafRow = get_or g.leaves k no_leaf in
      let there : slice_get g.leaves k ≡ Some (get_or g.leaves k no_leaf) = slice_get-get_or g.leaves k no_leaf low in
      let placed : placed_key given.texts (module_instances p.structure) (get_or g.leaves k no_leaf) ≡ leaf_at (keys_of p.structure) k =
      same-at (placed_key given.texts (module_instances p.structure)) (λ (a : Placed). a) g.leaves (cell_instances p.structure) k no_leaf (record { path = []; instance = [] }) (e.leaves ∙ sym (map-id (cell_instances p.structure))) low in
      let inside : (get_or g.leaves k no_leaf).inst.0 < length g.instances = ltb-true (get_or g.leaves k no_leaf).inst.0 (length g.instances) (list-at (λ (x : LeafRow). nat_lt x.inst.0 (length g.instances)) g.leaves k no_leaf e.represents.closed.leaves low) in
      let own : is_of domains d (get_or g.leaves k no_leaf).inst.0 ≡ is_of_domain p d (leaf_at (keys_of p.structure) k).path = of-key d (get_or g.leaves k no_leaf).inst.0 inside ∙ ap (λ (a : Placed). is_of_domain p d a.path) placed in
      let state = state-by g.shapes p.structure.cells e.shapes (get_or g.leaves k no_leaf).cell.0 ∙ ap has_state (cell-entry p.structure (keys_of p.structure) t e.represents k (get_or g.leaves k no_leaf) there) in
      ap (is_register_by g.shapes domains d) there ∙ (λ r. own r && state r)
    where
      map-id : {A : Type 0} (xs : List A) → map (λ x. x) xs ≡ xs
      map-id [] = refl
      map-id (x ∷ xs) = ap (λ r. x ∷ r) (map-id xs)
