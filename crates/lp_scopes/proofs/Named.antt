-- The calls by number on the index of an elaborated netlist give what names give by path.
use Rattle.std.proofs.Common.{◌≡◌, ◌<◌, ℕ, Bool, true, false, ◌||◌, List, [], map, length, get_or, codes, Option, Some, None, IfSome, refl, sym, ap, ◌∙◌, subst, arith}
use Rattle.std.specs.Prelude.{is_some, bytes_eq, option_map, if◌then◌else◌}
use Rattle.lp_model.specs.declared.graph.Graph.{Graph}
use Rattle.lp_model.specs.declared.ids.InstId.{InstId}
use Rattle.lp_model.specs.declared.ids.LeafId.{LeafId}
use Rattle.lp_spec_design.specs.Keys.{Name, Path}
use Rattle.lp_spec_design.specs.Netlists.{Structure}
use Rattle.lp_spec_design.specs.Instances.{Placed, module_instances, cell_instances}
use Rattle.lp_spec_design.specs.Graph.{when}
use Rattle.lp_spec_origins.specs.Commands.{Scoped}
use Rattle.lp_spec_bridge.specs.Tables.{Tables, tables_of}
use Rattle.lp_spec_bridge.specs.Keyed.{keys_of, path_at}
use Rattle.lp_spec_intent.specs.Names.{at, instance_at, is_instance, is_cell_instance, is_any_instance, no_instance, whole_name, instance_of}
use Rattle.lp_spec_intent.specs.Names as names
use Rattle.lp_scopes.specs.declared.scopes.Scopes.{Scopes}
use Rattle.lp_scopes.specs.declared.steps.Spot as code
use Rattle.lp_scopes.specs.declared.walk.Ends.TheVariants as kinds
use Rattle.lp_scopes.specs.Numbered.{inst_key, leaf_key, all_noted, standing, longest_of, Spot}
use Rattle.lp_scopes.specs.Spots.{IsIndex, spot_view, find, last_part, instance}
use Rattle.lp_scopes.specs.Paths.{IsScoped, inst_path, scoped_at, leaf_placed, placed_at, OnScope, OnSpot}
use Rattle.lp_scopes.proofs.Cells.{cell-path}
use Rattle.lp_scopes.proofs.Finding.{top-path, some-top, find-path, find-low, last-path, last-low-end}
use Rattle.lp_scopes.proofs.Standing.{some-is}

is_some-map : {A B : Type 0} (h : A → B) (o : Option A) → is_some o ≡ is_some (option_map h o)
is_some-map h None = refl
is_some-map h (Some x) = refl

module _ (texts : List (List ℕ)) (s : Structure) (t : Tables) (e : IsScoped texts s t) where
  abbrev path : ℕ → Path
  path k = get_or (module_instances s) k []

  -- the index of the tables
  abbrev index : Scopes
  index = record { instances = all_noted (map inst_key t.instances); leaves = all_noted (map leaf_key t.leaves); longest = longest_of texts t.instances }

  is-index : (x : Scopes) → IsIndex texts t.instances t.leaves x → index ≡ x
  is-index x i = λ j. record { instances = sym i.instances j; leaves = sym i.leaves j; longest = sym i.longest j }

  end-path : (a : Spot) → a.0 < length t.instances → is_some (find texts index t.instances a.0 a.1) ≡ is_instance s (at (path a.0) a.1)
  end-path a low = is_some-map (λ c. get_or (module_instances s) c []) (find texts index t.instances a.0 a.1) ∙ ap (λ (o : Option Path). is_some o) (find-path texts s t e a.0 a.1 low)

  abbrev key : Spot → Scoped
  key a = at (path a.0) a.1

  whole-of : (k : ℕ) (text : Name) → k < length t.instances → key (last_part texts index t.instances kinds.Nothing k text) ≡ whole_name s (path k) text
  whole-of k text low = last-path texts s t e (λ a. false) no_instance (λ a l. refl) k text low

  instance-path : (k : ℕ) (text : Name) → k < length t.instances → option_map (λ c. get_or (module_instances s) c []) (instance texts index t.instances k text) ≡ instance_of s (path k) text
  instance-path k text low = by (bytes_eq text (codes "/"))
    where
      last : Spot
      last = last_part texts index t.instances kinds.Instance k text

      by : (b : Bool) → option_map (λ c. get_or (module_instances s) c []) (if b then Some 0 else find texts index t.instances (last_part texts index t.instances kinds.Instance k text).0 (last_part texts index t.instances kinds.Instance k text).1)
          ≡ (if b then Some [] else instance_at s (names.last_part s (is_instance s) (path k) text))
      by true = ap (λ p. Some p) (top-path s)
      by false =
          find-path texts s t e (last_part texts index t.instances kinds.Instance k text).0 (last_part texts index t.instances kinds.Instance k text).1
          (last-low-end texts s t e (λ a. is_some (find texts index t.instances a.0 a.1)) (is_instance s) end-path k text low)
          ∙ ap (instance_at s) (last-path texts s t e (λ a. is_some (find texts index t.instances a.0 a.1)) (is_instance s) end-path k text low)

  -- ---- by any index of the tables

  pub whole_by_path : (x : Scopes) → IsIndex texts t.instances t.leaves x → (k : ℕ) (text : Name) → k < length t.instances
      → at (path (last_part texts x t.instances kinds.Nothing k text).0) (last_part texts x t.instances kinds.Nothing k text).1 ≡ whole_name s (path k) text
  whole_by_path x i k text low =
      subst (λ (y : Scopes). at (path (last_part texts y t.instances kinds.Nothing k text).0) (last_part texts y t.instances kinds.Nothing k text).1 ≡ whole_name s (path k) text) (is-index x i) (whole-of k text low)

  pub instance_by_path : (x : Scopes) → IsIndex texts t.instances t.leaves x → (k : ℕ) (text : Name) → k < length t.instances
      → option_map (λ c. get_or (module_instances s) c []) (instance texts x t.instances k text) ≡ instance_of s (path k) text
  instance_by_path x i k text low =
      subst (λ (y : Scopes). option_map (λ c. get_or (module_instances s) c []) (instance texts y t.instances k text) ≡ instance_of s (path k) text) (is-index x i) (instance-path k text low)

  instance-low : (k : ℕ) (text : Name) (c : ℕ) → k < length t.instances → instance texts index t.instances k text ≡ Some c → c < length t.instances
  instance-low k text c low h = by (bytes_eq text (codes "/")) h
    where
      by : (b : Bool) → (if b then Some 0 else find texts index t.instances (last_part texts index t.instances kinds.Instance k text).0 (last_part texts index t.instances kinds.Instance k text).1) ≡ Some c → c < length t.instances
      by true g = let is : 0 ≡ c = some-is 0 c g in let top = some-top texts s t e in omega (arith, is, top)
      by false g =
          find-low texts s t e (last_part texts index t.instances kinds.Instance k text).0 (last_part texts index t.instances kinds.Instance k text).1 c
          (last-low-end texts s t e (λ a. is_some (find texts index t.instances a.0 a.1)) (is_instance s) end-path k text low) g

  pub instance_within : (x : Scopes) → IsIndex texts t.instances t.leaves x → (k : ℕ) (text : Name) (c : ℕ) → k < length t.instances → instance texts x t.instances k text ≡ Some c → c < length t.instances
  instance_within x i k text c low =
      subst (λ (y : Scopes). instance texts y t.instances k text ≡ Some c → c < length t.instances) (is-index x i) (instance-low k text c low)

  pub whole_within : (x : Scopes) → IsIndex texts t.instances t.leaves x → (k : ℕ) (text : Name) → k < length t.instances → (last_part texts x t.instances kinds.Nothing k text).0 < length t.instances
  whole_within x i k text low =
      subst (λ (y : Scopes). (last_part texts y t.instances kinds.Nothing k text).0 < length t.instances) (is-index x i)
      (last-low-end texts s t e (λ a. false) no_instance (λ a l. refl) k text low)

  -- ---- elements

  cell-agrees : (a : Spot) → a.0 < length t.instances → is_some (standing texts (all_noted (map leaf_key t.leaves)) a.0 a.1) ≡ is_cell_instance s (at (path a.0) a.1)
  cell-agrees a low =
      is_some-map (λ l. get_or (cell_instances s) l (record { path = []; instance = [] })) (standing texts (all_noted (map leaf_key t.leaves)) a.0 a.1)
      ∙ ap (λ (o : Option Placed). is_some o) (cell-path texts s t e a.0 a.1 low)
      ∙ by (is_cell_instance s (at (path a.0) a.1))
    where
      by : (b : Bool) → is_some (when {A = Placed} b (record { path = path a.0; instance = a.1 })) ≡ b
      by true = refl
      by false = refl

  abbrev part_ends : Spot → Bool
  part_ends a = is_some (find texts index t.instances a.0 a.1) || is_some (standing texts (all_noted (map leaf_key t.leaves)) a.0 a.1)

  part-agrees : (a : Spot) → a.0 < length t.instances → part_ends a ≡ is_any_instance s (at (path a.0) a.1)
  part-agrees a low =
      ap (λ b. b || is_some (standing texts (all_noted (map leaf_key t.leaves)) a.0 a.1)) (end-path a low)
      ∙ ap (λ b. is_instance s (at (path a.0) a.1) || b) (cell-agrees a low)

  pub part_by_path : (x : Scopes) → IsIndex texts t.instances t.leaves x → (k : ℕ) (text : Name) → k < length t.instances
      → at (path (last_part texts x t.instances kinds.Part k text).0) (last_part texts x t.instances kinds.Part k text).1 ≡ names.last_part s (is_any_instance s) (path k) text
  part_by_path x i k text low =
      subst (λ (y : Scopes). at (path (last_part texts y t.instances kinds.Part k text).0) (last_part texts y t.instances kinds.Part k text).1 ≡ names.last_part s (is_any_instance s) (path k) text) (is-index x i)
      (last-path texts s t e part_ends (is_any_instance s) part-agrees k text low)

  pub part_within : (x : Scopes) → IsIndex texts t.instances t.leaves x → (k : ℕ) (text : Name) → k < length t.instances → (last_part texts x t.instances kinds.Part k text).0 < length t.instances
  part_within x i k text low =
      subst (λ (y : Scopes). (last_part texts y t.instances kinds.Part k text).0 < length t.instances) (is-index x i)
      (last-low-end texts s t e part_ends (is_any_instance s) part-agrees k text low)

  pub found_by_path : (x : Scopes) → IsIndex texts t.instances t.leaves x → (k : ℕ) (f : Name) → k < length t.instances
      → option_map (λ c. get_or (module_instances s) c []) (find texts x t.instances k f) ≡ instance_at s (at (path k) f)
  found_by_path x i k f low =
      subst (λ (y : Scopes). option_map (λ c. get_or (module_instances s) c []) (find texts y t.instances k f) ≡ instance_at s (at (path k) f)) (is-index x i) (find-path texts s t e k f low)

-- ---- what the calls give

module _ (texts : List (List ℕ)) (g : Graph) (x : Scopes) (scope : InstId) (text : Name) where
  module _ (result : Option InstId) (is : option_map (λ (i : InstId). i.0) result ≡ instance texts x g.instances scope.0 text) where
    again : (s : Structure) (o : Option InstId) → option_map (λ (i : InstId). path_at (keys_of s) i.0) o ≡ option_map (λ c. get_or (module_instances s) c []) (option_map (λ (i : InstId). i.0) o)
    again s None = refl
    again s (Some i) = refl

    pub instance_called : OnScope texts g x scope (λ s p. option_map (λ (i : InstId). path_at (keys_of s) i.0) result ≡ instance_of s p text)
    instance_called i s e low =
        again s result ∙ ap (λ o. option_map (λ c. get_or (module_instances s) c []) o) is ∙ instance_by_path texts s (tables_of g) e x i scope.0 text low

    pub instance_in_range : OnScope texts g x scope (λ s p. IfSome result (λ (r : InstId). r.0 < length g.instances))
    instance_in_range i s e low = by result is
      where
        by : (o : Option InstId) → option_map (λ (r : InstId). r.0) o ≡ instance texts x g.instances scope.0 text → IfSome o (λ (r : InstId). r.0 < length g.instances)
        by None f = tt
        by (Some r) f = instance_within texts s (tables_of g) e x i scope.0 text r.0 low (sym f)

  module _ (result : code.Spot) (is : spot_view result ≡ last_part texts x g.instances kinds.Nothing scope.0 text) where
    pub whole_called : OnScope texts g x scope (λ s p. at (path_at (keys_of s) result.inst.0) result.name.now ≡ whole_name s p text)
    whole_called i s e low = ap (λ (a : Spot). at (get_or (module_instances s) a.0 []) a.1) is ∙ whole_by_path texts s (tables_of g) e x i scope.0 text low

    pub whole_in_range : OnScope texts g x scope (λ s p. result.inst.0 < length g.instances)
    whole_in_range i s e low = subst (λ (a : Spot). a.0 < length g.instances) (sym is) (whole_within texts s (tables_of g) e x i scope.0 text low)

  module _ (result : code.Spot) (is : spot_view result ≡ last_part texts x g.instances kinds.Part scope.0 text) where
    pub part_called : OnScope texts g x scope (λ s p. scoped_at s result ≡ names.last_part s (is_any_instance s) p text)
    part_called i s e low = ap (λ (a : Spot). at (get_or (module_instances s) a.0 []) a.1) is ∙ part_by_path texts s (tables_of g) e x i scope.0 text low

    pub part_in_range : OnScope texts g x scope (λ s p. result.inst.0 < length g.instances)
    part_in_range i s e low = subst (λ (a : Spot). a.0 < length g.instances) (sym is) (part_within texts s (tables_of g) e x i scope.0 text low)

-- ---- what is named as a whole

module _ (texts : List (List ℕ)) (g : Graph) (x : Scopes) (spot : code.Spot) where
  module _ (result : Option InstId) (is : option_map (λ (i : InstId). i.0) result ≡ find texts x g.instances spot.inst.0 spot.name.now) where
    by-path : (s : Structure) (o : Option InstId) → option_map (inst_path s) o ≡ option_map (λ c. get_or (module_instances s) c []) (option_map (λ (i : InstId). i.0) o)
    by-path s None = refl
    by-path s (Some i) = refl

    pub found_called : OnSpot texts g x spot (λ s a. option_map (inst_path s) result ≡ instance_at s a)
    found_called i s e low =
        by-path s result ∙ ap (λ o. option_map (λ c. get_or (module_instances s) c []) o) is ∙ found_by_path texts s (tables_of g) e x i spot.inst.0 spot.name.now low

  module _ (result : Option LeafId) (is : option_map (λ (l : LeafId). l.0) result ≡ standing texts x.leaves spot.inst.0 spot.name.now) where
    as-placed : (s : Structure) (o : Option LeafId) → option_map (leaf_placed s) o ≡ option_map (λ l. get_or (cell_instances s) l (record { path = []; instance = [] })) (option_map (λ (l : LeafId). l.0) o)
    as-placed s None = refl
    as-placed s (Some l) = refl

    pub cell_called : OnSpot texts g x spot (λ s a. option_map (leaf_placed s) result ≡ when (is_cell_instance s a) (placed_at a))
    cell_called i s e low =
        as-placed s result
        ∙ ap (λ o. option_map (λ l. get_or (cell_instances s) l (record { path = []; instance = [] })) o) (is ∙ ap (λ es. standing texts es spot.inst.0 spot.name.now) i.leaves)
        ∙ cell-path texts s (tables_of g) e spot.inst.0 spot.name.now low
