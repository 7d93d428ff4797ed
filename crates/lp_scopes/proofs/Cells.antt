-- What cell instance stands in an instance by a name, by number and by path.
use Rattle.std.proofs.Common.{◌≡◌, ◌<◌, ℕ, zero, suc, ◌+◌, Bool, true, false, ◌&&◌, List, [], ◌∷◌, map, length, get_or, filter, Option, Some, None, inl, inr, refl, sym, ap, ◌∙◌, subst, arith}
use Rattle.std.specs.Prelude.{is_some, nat_lt, bytes_eq, slice_get, option_map, option_and_then, if◌then◌else◌}
use Rattle.std.specs.Map.{lookup}
use Rattle.std.proofs.lemmas.Bool.{false≢true, true≢false, ltb-true}
use Rattle.std.proofs.lemmas.Option.{slice_get-get_or, slice_get_within, get_or_from_slice_get}
use Rattle.std.proofs.lemmas.List.{get_or-map, length-map}
use Rattle.lp_text.specs.Texts.{text_at, place_of, place_of-Some, place_of-distinct}
use Rattle.lp_model.specs.declared.graph.Leaf.{Leaf}
use Rattle.lp_model.specs.NetlistView.{InstanceView, ModuleView}
use Rattle.lp_model.specs.LibraryView.{CellView}
use Rattle.lp_spec_design.specs.Keys.{Name, Path}
use Rattle.lp_spec_design.specs.Netlists.{Structure, first, module_named, cell_named, module_at}
use Rattle.lp_spec_design.specs.Instances.{Placed, children_in, children, below, module_instances, cells_of_target, cells_of, cells_in, cells_below, cell_instances}
use Rattle.lp_spec_design.specs.Graph.{numbered, when}
use Rattle.lp_spec_design.specs.Winners.{IsIn}
use Rattle.lp_spec_design.specs.Reads.{one, other, both, name-true, name-self}
use Rattle.lp_spec_design.proofs.Members.{of-map, in-flat, of-flat, of-filter, of-any, any-in}
use Rattle.lp_spec_bridge.specs.Tables.{Tables}
use Rattle.lp_spec_bridge.specs.Elaborates.{placed_key}
use Rattle.lp_spec_bridge.proofs.Apart.{in-at, apart-at}
use Rattle.lp_spec_intent.specs.Names.{at, cell_by, is_cell_instance}
use Rattle.lp_scopes.specs.Numbered.{Key, same_key, leaf_key, all_noted, standing}
use Rattle.lp_scopes.specs.Paths.{IsScoped}
use Rattle.lp_scopes.proofs.Noted.{found-is, noted-found, numbered-row, row-numbered}
use Rattle.lp_scopes.proofs.Rows.{row-count}
use Rattle.lp_scopes.proofs.Standing.{none-some, some-is, some-of, place-in, all-slice}

-- ---- cell instances of a design

module _ (s : Structure) where
  -- one that is listed stands in the module of its instance
  listed-cell : (depth : ℕ) (q : Path) (a : Placed) → IsIn a (cells_below s depth q) → is_cell_instance s (at a.path a.instance) ≡ true
  listed-cell zero q a h = absurd h
  listed-cell (suc depth) q a h = by (module_at s q) refl h (λ p g. listed-cell depth p a g)
    where
      kind : (m : ModuleView) (x : InstanceView) → module_at s q ≡ Some m → IsIn x m.instances → (o : Option ModuleView) (c : Option CellView) → cell_named s x.target ≡ c
          → IsIn a (cells_of_target (cells_below s depth) q x.name o c) → ((p : Path) → IsIn a (cells_below s depth p) → is_cell_instance s (at a.path a.instance) ≡ true) → is_cell_instance s (at a.path a.instance) ≡ true
      kind m x e i (Some o) c f g more = more (x.name ∷ q) g
      kind m x e i None None f g more = absurd g
      kind m x e i None (Some c) f (inr none) more = absurd none
      kind m x e i None (Some c) f (inl is) more =
          ap (λ (z : Placed). cell_by s z.path z.instance (module_at s z.path)) is
          ∙ ap (cell_by s q x.name) e
          ∙ any-in (λ (z : InstanceView). bytes_eq z.name x.name && is_some (cell_named s z.target)) x m.instances i (both (bytes_eq x.name x.name) (is_some (cell_named s x.target)) (name-self x.name) (ap is_some f))

      by : (o : Option ModuleView) → module_at s q ≡ o → IsIn a (cells_in s (cells_below s depth) q o) → ((p : Path) → IsIn a (cells_below s depth p) → is_cell_instance s (at a.path a.instance) ≡ true) → is_cell_instance s (at a.path a.instance) ≡ true
      by None e g more = absurd g
      by (Some m) e g more =
          let x = of-flat (cells_of s (cells_below s depth) q) a m.instances g in
          kind m x.0 e x.1 (module_named s x.0.target) (cell_named s x.0.target) refl x.2 more

  -- one that stands in the module of a listed instance is listed
  cell-listed : (depth : ℕ) (q p : Path) (f : Name) → IsIn p (below s depth q) → is_cell_instance s (at p f) ≡ true → IsIn (record { path = p; instance = f }) (cells_below s depth q)
  cell-listed zero q p f h e = absurd h
  cell-listed (suc depth) q p f (inl is) e = subst (λ z. IsIn (record { path = z; instance = f }) (cells_in s (cells_below s depth) q (module_at s q))) (sym is) (by (module_at s q) (ap (λ z. is_cell_instance s (at z f)) (sym is) ∙ e))
    where
      no-module : (n : Name) (o : Option ModuleView) → module_named s n ≡ o → is_some (cell_named s n) ≡ true → o ≡ None
      no-module n None g i = refl
      no-module n (Some m) g i = absurd (false≢true (sym (ap (λ (z : Option ModuleView). is_some (if is_some z then None else first (λ (c : CellView). bytes_eq c.name n) s.cells)) g) ∙ i))

      by : (o : Option ModuleView) → cell_by s q f o ≡ true → IsIn (record { path = q; instance = f }) (cells_in s (cells_below s depth) q o)
      by None g = absurd (false≢true g)
      by (Some m) g =
          let x = of-any (λ (z : InstanceView). bytes_eq z.name f && is_some (cell_named s z.target)) m.instances g in
          let name : x.0.name ≡ f = name-true x.0.name f (one (bytes_eq x.0.name f) (is_some (cell_named s x.0.target)) x.2) in
          let is_cell = other (bytes_eq x.0.name f) (is_some (cell_named s x.0.target)) x.2 in
          let c = some-of (cell_named s x.0.target) is_cell in
          let none : module_named s x.0.target ≡ None = no-module x.0.target (module_named s x.0.target) refl is_cell in
          let kinds : cells_of s (cells_below s depth) q x.0 ≡ record { path = q; instance = x.0.name } ∷ [] =
          ap (λ o. cells_of_target (cells_below s depth) q x.0.name o (cell_named s x.0.target)) none ∙ ap (cells_of_target (cells_below s depth) q x.0.name None) c.1 in
          in-flat (cells_of s (cells_below s depth) q) x.0 (record { path = q; instance = f }) m.instances x.1
          (subst (λ (zs : List Placed). IsIn (record { path = q; instance = f }) zs) (sym kinds) (inl (ap (λ n. record { path = q; instance = n }) (sym name))))
  cell-listed (suc depth) q p f (inr h) e =
      let c = of-flat (below s depth) p (children s q) h in
      by (module_at s q) c.0 c.1 (cell-listed depth c.0 p f c.2 e)
    where
      by : (o : Option ModuleView) (c : Path) → IsIn c (children_in s q o) → IsIn (record { path = p; instance = f }) (cells_below s depth c) → IsIn (record { path = p; instance = f }) (cells_in s (cells_below s depth) q o)
      by None c i g = absurd i
      by (Some m) c i g =
          let x = of-map (λ (z : InstanceView). z.name ∷ q) c (filter (λ (z : InstanceView). is_some (module_named s z.target)) m.instances) i in
          let kept = of-filter (λ (z : InstanceView). is_some (module_named s z.target)) x.0 m.instances x.1 in
          let n = some-of (module_named s x.0.target) kept.1 in
          in-flat (cells_of s (cells_below s depth) q) x.0 (record { path = p; instance = f }) m.instances kept.0
          (subst (λ o. IsIn (record { path = p; instance = f }) (cells_of_target (cells_below s depth) q x.0.name o (cell_named s x.0.target))) (sym n.1)
          (subst (λ z. IsIn (record { path = p; instance = f }) (cells_below s depth z)) x.2 g))

  pub cell-is : (a : Placed) → IsIn a (cell_instances s) → is_cell_instance s (at a.path a.instance) ≡ true
  unfolding cell_instances
  cell-is a h = listed-cell 64 [] a h

  pub is-cell : (p : Path) (f : Name) → IsIn p (module_instances s) → is_cell_instance s (at p f) ≡ true → IsIn (record { path = p; instance = f }) (cell_instances s)
  unfolding cell_instances module_instances
  is-cell p f h e = cell-listed 64 [] p f h e

-- ---- by number

module _ (texts : List (List ℕ)) (s : Structure) (t : Tables) (e : IsScoped texts s t) where
  abbrev path : ℕ → Path
  path k = get_or (module_instances s) k []

  abbrev leaf : ℕ → Placed
  leaf l = get_or (cell_instances s) l (record { path = []; instance = [] })

  leaf-count : length t.leaves ≡ length (cell_instances s)
  leaf-count = sym (length-map t.leaves (placed_key texts (module_instances s))) ∙ ap (λ (xs : List Placed). length xs) e.elaborates.leaves

  leaf-row : (l : ℕ) (x : Leaf) → slice_get t.leaves l ≡ Some x → leaf l ≡ placed_key texts (module_instances s) x
  leaf-row l x row =
      let low = slice_get_within t.leaves l x row in
      ap (λ (xs : List Placed). get_or xs l (record { path = []; instance = [] })) (sym e.elaborates.leaves)
      ∙ get_or-map (placed_key texts (module_instances s)) t.leaves l x (record { path = []; instance = [] }) low
      ∙ ap (placed_key texts (module_instances s)) (get_or_from_slice_get t.leaves l x x row)

  key-parts : (x : Leaf) (k n : ℕ) → leaf_key x ≡ Some (k, n) → (x.inst.0 ≡ k) × (x.name.0 ≡ n)
  key-parts x k n h =
      let same : (x.inst.0, x.name.0) ≡ (k, n) = some-is (x.inst.0, x.name.0) (k, n) h in
      (ap (λ (z : ℕ × ℕ). z.0) same, ap (λ (z : ℕ × ℕ). z.1) same)

  leaf-of : (k n l : ℕ) → lookup (same_key (k, n)) (all_noted (map leaf_key t.leaves)) ≡ Some l → (l < length t.leaves) × (leaf l ≡ record { path = path k; instance = text_at texts n })
  leaf-of k n l h = elim (found-is (k, n) [] 0 (map leaf_key t.leaves) l h) [
    | inl none ↦ absurd (none-some l none)
    | inr there ↦
        let r = numbered-row leaf_key t.leaves (Some (k, n)) 0 l there in
        let at_l : r.at ≡ l = (let p = r.place_is in omega (arith, p)) in
        let parts = key-parts r.row k n r.is in
        let here : slice_get t.leaves l ≡ Some r.row = ap (slice_get t.leaves) (sym at_l) ∙ r.there in (
          slice_get_within t.leaves l r.row here,
          leaf-row l r.row here
              ∙ ap (λ j. record { path = get_or (module_instances s) j []; instance = text_at texts r.row.name.0 }) parts.0
              ∙ ap (λ j. record { path = get_or (module_instances s) k []; instance = text_at texts j }) parts.1,
        )
  ]

  standing-leaf : (k : ℕ) (f : Name) (l : ℕ) → standing texts (all_noted (map leaf_key t.leaves)) k f ≡ Some l → (l < length t.leaves) × (leaf l ≡ record { path = path k; instance = f })
  standing-leaf k f l h = by (place_of f texts) refl h
    where
      by : (o : Option ℕ) → place_of f texts ≡ o → option_and_then (λ n. lookup (same_key (k, n)) (all_noted (map leaf_key t.leaves))) o ≡ Some l → (l < length t.leaves) × (leaf l ≡ record { path = path k; instance = f })
      by None p g = absurd (none-some l g)
      by (Some n) p g = let r = leaf-of k n l g in (r.0, r.1 ∙ ap (λ z. record { path = path k; instance = z }) (place_of-Some f texts n p).1)

  has-leaf : (k : ℕ) (f : Name) → k < length t.instances → is_cell_instance s (at (path k) f) ≡ true → is_some (standing texts (all_noted (map leaf_key t.leaves)) k f) ≡ true
  has-leaf k f low h =
      let count = row-count texts s t e.elaborates in
      let here : IsIn (path k) (module_instances s) = in-at (module_instances s) k [] (omega (arith, count)) in
      let found = place-in (cell_instances s) (record { path = path k; instance = f }) (record { path = []; instance = [] }) (is-cell s (path k) f here h) in
      let leaves = leaf-count in
      let within : found.0 < length t.leaves = omega (arith, leaves, found.1) in
      on (get_or t.leaves found.0 nothing) found.0 (slice_get-get_or t.leaves found.0 nothing within) found.2
    where
      nothing : Leaf
      nothing = record { inst = record { 0 = 0 }; name = record { 0 = 0 }; cell = record { 0 = 0 }; start = 0 }

      on : (x : Leaf) (l : ℕ) → slice_get t.leaves l ≡ Some x → leaf l ≡ record { path = path k; instance = f } → is_some (standing texts (all_noted (map leaf_key t.leaves)) k f) ≡ true
      on x l row is =
          let here : Placed = record { path = path k; instance = f } in
          let same : placed_key texts (module_instances s) x ≡ here = sym (leaf-row l x row) ∙ is in
          let paths : path x.inst.0 ≡ path k = ap (λ (z : Placed). z.path) same in
          let name : text_at texts x.name.0 ≡ f = ap (λ (z : Placed). z.instance) same in
          let count = row-count texts s t e.elaborates in
          let inside = ltb-true x.inst.0 (length t.instances) (all-slice (λ (z : Leaf). nat_lt z.inst.0 (length t.instances)) t.leaves l x e.elaborates.represents.closed.leaves row) in
          let inst : x.inst.0 ≡ k = apart-at (module_instances s) x.inst.0 k [] [] e.elaborates.apart.instances (omega (arith, count, inside)) (omega (arith, count)) paths in
          let known = ltb-true x.name.0 (length texts) (all-slice (λ (z : Leaf). nat_lt z.name.0 (length texts)) t.leaves l x e.leaves row) in
          let place : place_of f texts ≡ Some x.name.0 = ap (λ z. place_of z texts) (sym name) ∙ place_of-distinct texts x.name.0 e.apart known in
          let key : leaf_key x ≡ Some (k, x.name.0) = ap (λ j. (let pair : Key = (j, x.name.0) in Some pair)) inst in
          let noted = noted-found (k, x.name.0) [] 0 (map leaf_key t.leaves) (0 + l) (subst (λ (z : Option Key). IsIn (0 + l, z) (numbered 0 (map leaf_key t.leaves))) key (row-numbered leaf_key t.leaves 0 l x row)) in
          ap (λ z. is_some (option_and_then (λ n. lookup (same_key (k, n)) (all_noted (map leaf_key t.leaves))) z)) place ∙ noted

  -- the cell instance that stands in an instance by a name
  pub cell-path : (k : ℕ) (f : Name) → k < length t.instances
      → option_map (λ l. get_or (cell_instances s) l (record { path = []; instance = [] })) (standing texts (all_noted (map leaf_key t.leaves)) k f)
      ≡ when (is_cell_instance s (at (get_or (module_instances s) k []) f)) (record { path = get_or (module_instances s) k []; instance = f })
  cell-path k f low = by (standing texts (all_noted (map leaf_key t.leaves)) k f) refl
    where
      none : (b : Bool) → is_cell_instance s (at (path k) f) ≡ b → standing texts (all_noted (map leaf_key t.leaves)) k f ≡ None → None ≡ when {A = Placed} b (record { path = path k; instance = f })
      none true h g = absurd (true≢false (sym (has-leaf k f low h) ∙ ap is_some g))
      none false h g = refl

      by : (o : Option ℕ) → standing texts (all_noted (map leaf_key t.leaves)) k f ≡ o
          → option_map {U = Placed} (λ l. get_or (cell_instances s) l (record { path = []; instance = [] })) o ≡ when {A = Placed} (is_cell_instance s (at (path k) f)) (record { path = path k; instance = f })
      by None g = none (is_cell_instance s (at (path k) f)) refl g
      by (Some l) g =
          let r = standing-leaf k f l g in
          let leaves = leaf-count in
          let there : is_cell_instance s (at (path k) f) ≡ true =
          ap (λ (z : Placed). is_cell_instance s (at z.path z.instance)) (sym r.1) ∙ cell-is s (leaf l) (in-at (cell_instances s) l (record { path = []; instance = [] }) (omega (arith, leaves, r.0))) in
          ap (λ (z : Placed). Some z) r.1 ∙ ap (λ b. when b (record { path = path k; instance = f })) (sym there)
