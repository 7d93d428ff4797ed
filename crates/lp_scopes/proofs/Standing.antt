-- What stands in an instance by a name, by number and by path.
use Rattle.std.proofs.Common.{◌≡◌, ◌⊎◌, ◌<◌, ℕ, zero, suc, ◌+◌, Bool, true, false, List, [], ◌∷◌, map, length, get_or, filter, Option, Some, None, inl, inr, refl, sym, ap, ◌∙◌, subst, arith}
use Rattle.std.specs.Prelude.{is_some, nat_lt, bytes_eq, slice_get, option_map, option_and_then, if◌then◌else◌}
use Rattle.std.specs.List.{list_all}
use Rattle.std.specs.Map.{lookup}
use Rattle.std.proofs.lemmas.Bool.{false≢true, ltb-true, cases_lt}
use Rattle.std.proofs.lemmas.Option.{slice_get-get_or, slice_get_within}
use Rattle.lp_text.specs.Texts.{text_at, place_of, place_of-Some, place_of-distinct}
use Rattle.lp_model.specs.declared.graph.Inst.{Inst}
use Rattle.lp_model.specs.declared.ids.InstId.{InstId}
use Rattle.lp_model.specs.NetlistView.{InstanceView, ModuleView}
use Rattle.lp_spec_design.specs.Keys.{Name, Path}
use Rattle.lp_spec_design.specs.Netlists.{Structure, first, module_named, instance_named, module_at}
use Rattle.lp_spec_design.specs.Instances.{children_in, children, below, module_instances}
use Rattle.lp_spec_design.specs.Graph.{numbered, when}
use Rattle.lp_spec_design.specs.Winners.{IsIn}
use Rattle.lp_spec_design.specs.Reads.{one, other, name-true}
use Rattle.lp_spec_design.proofs.Members.{in-map, of-map, of-flat, of-filter}
use Rattle.lp_spec_design.proofs.Sources.{then_is, first_in, in_reach}
use Rattle.lp_spec_bridge.specs.Tables.{Tables}
use Rattle.lp_spec_bridge.specs.Elaborates.{path_in}
use Rattle.lp_spec_bridge.proofs.Apart.{apart-at}
use Rattle.lp_spec_layout.proofs.Fed.{path-child}
use Rattle.lp_spec_intent.specs.Names.{Place, is_module_instance, instances_in, path_of}
use Rattle.lp_scopes.specs.Numbered.{Key, same_key, inst_key, all_noted, standing}
use Rattle.lp_scopes.specs.Paths.{IsScoped}
use Rattle.lp_scopes.proofs.Noted.{found-is, noted-found, numbered-row, row-numbered}
use Rattle.lp_scopes.proofs.Rows.{row-path, row-count, parent-low}

pub none-some : {A : Type 0} (x : A) → None ≡ Some x → ⊥
none-some x e = cc

pub some-is : {A : Type 0} (x y : A) → Some x ≡ Some y → x ≡ y
some-is x y e = cc

pub some-of : {A : Type 0} (o : Option A) → is_some o ≡ true → (x : A) × (o ≡ Some x)
some-of None e = absurd (false≢true e)
some-of (Some x) e = (x, refl)

pub place-in : {A : Type 0} (xs : List A) (a d : A) → IsIn a xs → (i : ℕ) × (i < length xs) × (get_or xs i d ≡ a)
place-in [] a d h = absurd h
place-in (x ∷ xs) a d (inl is) = (0, omega arith, sym is)
place-in (x ∷ xs) a d (inr more) = let found = place-in xs a d more in (suc found.0, omega (arith, found.1), found.2)

first-none : {A : Type 0} (p : A → Bool) (xs : List A) (x : A) → IsIn x xs → p x ≡ true → first p xs ≡ None → ⊥
first-none p [] x h e f = absurd h
first-none p (y ∷ xs) x h e f = by (p y) refl f (λ m n. first-none p xs x m e n)
  where
    by : (t : Bool) → p y ≡ t → (if t then Some y else first p xs) ≡ None → (IsIn x xs → first p xs ≡ None → ⊥) → ⊥
    by true g n rest = none-some y (sym n)
    by false g n rest = elim h [ inl is ↦ absurd (false≢true (sym g ∙ ap p (sym is) ∙ e)) | inr more ↦ rest more n ]

in-filter : {A : Type 0} (p : A → Bool) (xs : List A) (x : A) → IsIn x xs → p x ≡ true → IsIn x (filter p xs)
in-filter p [] x h e = absurd h
in-filter p (y ∷ xs) x h e = by (p y) refl (λ r. in-filter p xs x r e)
  where
    by : (t : Bool) → p y ≡ t → (IsIn x xs → IsIn x (filter p xs)) → IsIn x (if t then y ∷ filter p xs else filter p xs)
    by true f more = elim h [ inl is ↦ inl is | inr r ↦ inr (more r) ]
    by false f more = elim h [ inl is ↦ absurd (false≢true (sym f ∙ ap p (sym is) ∙ e)) | inr r ↦ more r ]

cons-head : (a b : Name) (p q : Path) → a ∷ p ≡ b ∷ q → (a ≡ b) × (p ≡ q)
cons-head a b p q e = (cc, cc)

nil-cons : (a : Name) (p : Path) → [] ≡ a ∷ p → ⊥
nil-cons a p e = cc

pub all-slice : {A : Type 0} (p : A → Bool) (xs : List A) (i : ℕ) (x : A) → list_all p xs ≡ true → slice_get xs i ≡ Some x → p x ≡ true
all-slice p [] i x h e = absurd cc
all-slice p (y ∷ xs) zero x h e = let is : y ≡ x = cc in ap p (sym is) ∙ one (p y) (list_all p xs) h
all-slice p (y ∷ xs) (suc i) x h e = all-slice p xs i x (other (p y) (list_all p xs) h) e

-- ---- instances by their paths

module _ (s : Structure) where
  -- one that stands in an instance by a name, as a place among all
  pub placed : (p : Path) (f : Name) → path_of (first (λ (x : Place). bytes_eq x.name f) (instances_in s p (module_at s p))) ≡ when (is_some (module_at s (f ∷ p))) (f ∷ p)
  placed p f = by (module_at s p) refl
    where
      child_of : Option ModuleView → Option ModuleView
      child_of o = option_and_then (λ m. option_and_then (λ x. module_named s x.target) (instance_named m f)) o

      test : Place → Bool
      test x = bytes_eq x.name f

      found : (m : ModuleView) → (o : Option Place) → first (λ (x : Place). bytes_eq x.name f) (instances_in s p (Some m)) ≡ o → module_at s p ≡ Some m → (b : Bool) → is_some (module_at s (f ∷ p)) ≡ b → path_of o ≡ when b (f ∷ p)
      found m (Some y) e g b h =
          let in_places = first_in (λ (x : Place). bytes_eq x.name f) (instances_in s p (Some m)) y e in
          let x = of-map (λ (z : InstanceView). record { name = z.name; path = z.name ∷ p }) y (filter (is_module_instance s p) m.instances) in_places.0 in
          let there = of-filter (is_module_instance s p) x.0 m.instances x.1 in
          let name : x.0.name ≡ f = name-true x.0.name f (ap (λ (z : Place). bytes_eq z.name f) (sym x.2) ∙ in_places.1) in
          let path : y.path ≡ f ∷ p = ap (λ (z : Place). z.path) x.2 ∙ ap (λ n. n ∷ p) name in
          let up : b ≡ true = sym h ∙ ap (λ n. is_some (module_at s (n ∷ p))) (sym name) ∙ there.1 in
          ap (λ q. Some q) path ∙ ap (λ t. when t (f ∷ p)) (sym up)
      found m None e g false h = refl
      found m None e g true h =
          let m' = some-of (module_at s (f ∷ p)) h in
          let above = then_is (λ (z : ModuleView). option_and_then (λ (y : InstanceView). module_named s y.target) (instance_named z f)) (module_at s p) m'.0 m'.1 in
          let same : above.0 ≡ m = some-is above.0 m (sym above.1 ∙ g) in
          let inst = then_is (λ (y : InstanceView). module_named s y.target) (instance_named above.0 f) m'.0 above.2 in
          let x = first_in (λ (y : InstanceView). bytes_eq y.name f) above.0.instances inst.0 inst.1 in
          let name : inst.0.name ≡ f = name-true inst.0.name f x.1 in
          let kept = in-filter (is_module_instance s p) m.instances inst.0 (subst (λ (z : ModuleView). IsIn inst.0 z.instances) same x.0) (ap (λ n. is_some (module_at s (n ∷ p))) name ∙ h) in
          let here = in-map (λ (z : InstanceView). record { name = z.name; path = z.name ∷ p }) inst.0 (filter (is_module_instance s p) m.instances) kept in
          absurd (first-none (λ (z : Place). bytes_eq z.name f) (instances_in s p (Some m)) (record { name = inst.0.name; path = inst.0.name ∷ p }) here x.1 e)

      by : (o : Option ModuleView) → module_at s p ≡ o → path_of (first (λ (x : Place). bytes_eq x.name f) (instances_in s p o)) ≡ when (is_some (module_at s (f ∷ p))) (f ∷ p)
      by None e = ap (λ o. when (is_some (option_and_then (λ m. option_and_then (λ x. module_named s x.target) (instance_named m f)) o)) (f ∷ p)) (sym e)
      by (Some m) e = found m (first (λ (x : Place). bytes_eq x.name f) (instances_in s p (Some m))) refl e (is_some (module_at s (f ∷ p))) refl

-- ---- by number

module _ (texts : List (List ℕ)) (s : Structure) (t : Tables) (e : IsScoped texts s t) where
  abbrev pub path : ℕ → Path
  path k = get_or (module_instances s) k []

  abbrev keys : List (Option Key)
  keys = map inst_key t.instances

  child-there : (q c : Path) → IsIn c (children s q) → is_some (module_at s c) ≡ true
  child-there q c h = by (module_at s q) refl h
    where
      by : (o : Option ModuleView) → module_at s q ≡ o → IsIn c (children_in s q o) → is_some (module_at s c) ≡ true
      by None f g = absurd g
      by (Some m) f g =
          let x = of-map (λ (z : InstanceView). z.name ∷ q) c (filter (λ (z : InstanceView). is_some (module_named s z.target)) m.instances) g in
          let kept = of-filter (λ (z : InstanceView). is_some (module_named s z.target)) x.0 m.instances x.1 in
          ap (λ p. is_some (module_at s p)) x.2 ∙ ap is_some (path-child s e.names q m x.0 f kept.0) ∙ kept.1

  below-there : (depth : ℕ) (q p : Path) → IsIn p (below s depth q) → (p ≡ q) ⊎ (is_some (module_at s p) ≡ true)
  below-there zero q p h = absurd h
  below-there (suc depth) q p (inl is) = inl is
  below-there (suc depth) q p (inr h) =
      let found = of-flat (below s depth) p (children s q) h in
      elim (below-there depth found.0 p found.2) [
        | inl is ↦ inr (ap (λ x. is_some (module_at s x)) is ∙ child-there q found.0 found.1)
        | inr there ↦ inr there
      ]

  pub listed-there : (n : Name) (p : Path) → IsIn (n ∷ p) (module_instances s) → is_some (module_at s (n ∷ p)) ≡ true
  unfolding module_instances
  listed-there n p h = elim (below-there 64 [] (n ∷ p) h) [
    | inl is ↦ absurd (nil-cons n p (sym is))
    | inr there ↦ there
  ]

  pub there-listed : (p : Path) (m : ModuleView) → module_at s p ≡ Some m → IsIn p (module_instances s)
  unfolding module_instances
  there-listed p m f = elim (cases_lt (length p) 64) [
    | inl less ↦ in_reach s 64 p m f less
    | inr more ↦ absurd (none-some m (sym (e.shallow p more) ∙ f))
  ]

  key-parts : (x : Inst) (k n : ℕ) → inst_key x ≡ Some (k, n) → (q : InstId) × (x.parent ≡ Some q) × (q.0 ≡ k) × (x.name.0 ≡ n)
  key-parts x k n h = by x.parent refl h
    where
      by : (o : Option InstId) → x.parent ≡ o → option_map {U = ℕ × ℕ} (λ (q : InstId). (q.0, x.name.0)) o ≡ Some (k, n) → (q : InstId) × (x.parent ≡ Some q) × (q.0 ≡ k) × (x.name.0 ≡ n)
      by None f g = absurd (none-some (k, n) g)
      by (Some q) f g =
          let same : (q.0, x.name.0) ≡ (k, n) = some-is (q.0, x.name.0) (k, n) g in
          (q, f, ap (λ (z : ℕ × ℕ). z.0) same, ap (λ (z : ℕ × ℕ). z.1) same)

  row-of : (k n c : ℕ) → lookup (same_key (k, n)) (all_noted keys) ≡ Some c → (c < length t.instances) × (path c ≡ text_at texts n ∷ path k) × (x : Inst) × (slice_get t.instances c ≡ Some x) × (x.name.0 ≡ n)
  row-of k n c h = elim (found-is (k, n) [] 0 (map inst_key t.instances) c h) [
    | inl none ↦ absurd (none-some c none)
    | inr there ↦
        let r = numbered-row inst_key t.instances (Some (k, n)) 0 c there in
        let at : r.at ≡ c = (let p = r.place_is in omega (arith, p)) in
        let parts = key-parts r.row k n r.is in
        let here : slice_get t.instances c ≡ Some r.row = ap (slice_get t.instances) (sym at) ∙ r.there in (
          slice_get_within t.instances c r.row here,
          row-path texts s t e.elaborates c r.row here
              ∙ ap (λ o. path_in texts (module_instances s) r.row.name.0 o) parts.1
              ∙ ap (λ j. text_at texts j ∷ get_or (module_instances s) parts.0.0 []) parts.3
              ∙ ap (λ j. text_at texts n ∷ get_or (module_instances s) j []) parts.2,
          r.row,
          here,
          parts.3,
        )
  ]

  pub standing-is : (k : ℕ) (f : Name) (c : ℕ) → standing texts (all_noted keys) k f ≡ Some c → (c < length t.instances) × (path c ≡ f ∷ path k) × (x : Inst) × (slice_get t.instances c ≡ Some x) × (text_at texts x.name.0 ≡ f)
  standing-is k f c h = by (place_of f texts) refl h
    where
      by : (o : Option ℕ) → place_of f texts ≡ o → option_and_then (λ n. lookup (same_key (k, n)) (all_noted keys)) o ≡ Some c → (c < length t.instances) × (path c ≡ f ∷ path k) × (x : Inst) × (slice_get t.instances c ≡ Some x) × (text_at texts x.name.0 ≡ f)
      by None p g = absurd (none-some c g)
      by (Some n) p g =
          let r = row-of k n c g in
          let text : text_at texts n ≡ f = (place_of-Some f texts n p).1 in
          (r.0, r.1 ∙ ap (λ z. z ∷ get_or (module_instances s) k []) text, r.2, r.3, ap (text_at texts) r.4 ∙ text)

  pub has-standing : (k : ℕ) (f : Name) → k < length t.instances → is_some (module_at s (f ∷ path k)) ≡ true → is_some (standing texts (all_noted keys) k f) ≡ true
  has-standing k f low h =
      let m = some-of (module_at s (f ∷ path k)) h in
      let found = place-in (module_instances s) (f ∷ path k) [] (there-listed (f ∷ path k) m.0 m.1) in
      let count = row-count texts s t e.elaborates in
      let i = found.0 in
      let within : found.0 < length t.instances = omega (arith, count, found.1) in
      let x : Inst = get_or t.instances found.0 (record { name = record { 0 = 0 }; «module» = 0; parent = None; start = 0 }) in
      let row : slice_get t.instances found.0 ≡ Some (get_or t.instances found.0 (record { name = record { 0 = 0 }; «module» = 0; parent = None; start = 0 })) = slice_get-get_or t.instances found.0 (record { name = record { 0 = 0 }; «module» = 0; parent = None; start = 0 }) within in
      by (get_or t.instances found.0 (record { name = record { 0 = 0 }; «module» = 0; parent = None; start = 0 })) found.0 within row found.2
    where
      on : (x : Inst) (i : ℕ) → i < length t.instances → slice_get t.instances i ≡ Some x → (o : Option InstId) → x.parent ≡ o → f ∷ path k ≡ path_in texts (module_instances s) x.name.0 o → is_some (standing texts (all_noted keys) k f) ≡ true
      on x i within row None p is = absurd (nil-cons f (path k) (sym is))
      on x i within row (Some q) p is =
          let parts = cons-head f (text_at texts x.name.0) (path k) (path q.0) is in
          let count = row-count texts s t e.elaborates in
          let below_i = parent-low texts s t e.elaborates i x q row p in
          let same : q.0 ≡ k = apart-at (module_instances s) q.0 k [] [] e.elaborates.apart.instances (omega (arith, count, below_i)) (omega (arith, count)) (sym parts.1) in
          let known : x.name.0 < length texts = ltb-true x.name.0 (length texts) (all-slice (λ (z : Inst). nat_lt z.name.0 (length texts)) t.instances i x e.instances row) in
          let place : place_of f texts ≡ Some x.name.0 = ap (λ z. place_of z texts) parts.0 ∙ place_of-distinct texts x.name.0 e.apart known in
          let key : inst_key x ≡ Some (k, x.name.0) = ap (λ (z : Option InstId). option_map {U = ℕ × ℕ} (λ (r : InstId). (r.0, x.name.0)) z) p ∙ ap (λ j. (let pair : ℕ × ℕ = (j, x.name.0) in Some pair)) same in
          let noted = noted-found (k, x.name.0) [] 0 (map inst_key t.instances) (0 + i) (subst (λ (z : Option Key). IsIn {A = ℕ × Option Key} (0 + i, z) (numbered 0 (map inst_key t.instances))) key (row-numbered inst_key t.instances 0 i x row)) in
          ap (λ z. is_some (option_and_then (λ n. lookup (same_key (k, n)) (all_noted keys)) z)) place ∙ noted

      by : (x : Inst) (i : ℕ) → i < length t.instances → slice_get t.instances i ≡ Some x → path i ≡ f ∷ path k → is_some (standing texts (all_noted keys) k f) ≡ true
      by x i within row is = on x i within row x.parent refl (sym is ∙ row-path texts s t e.elaborates i x row)
