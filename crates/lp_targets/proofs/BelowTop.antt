-- Where one module is instantiated by none and no module contains itself, that one contains all others.
use Rattle.std.proofs.Common.{◌≡◌, ◌⊎◌, inl, inr, ℕ, zero, suc, ◌+◌, ◌<◌, ◌≤◌, Bool, true, false, not, ◌||◌, cond, List, [], ◌∷◌, length, Option, Some, None, refl, sym, ap, ◌∙◌, subst, arith}
use Rattle.std.specs.Prelude.{filter, slice_get, bytes_eq, sum_by}
use Rattle.std.specs.List.{list_any}
use Rattle.std.proofs.lemmas.Bool.{true≢false, not_from_false}
use Rattle.std.proofs.lemmas.List.Sums.{sum_by-cons}
use Rattle.lp_text.specs.Texts.{same_text-true, true-same_text}
use Rattle.lp_model.specs.NetlistView.{InstanceView, ModuleView}
use Rattle.lp_order.specs.Order.{Reads, Reaches, one_read, more_reads}
use Rattle.lp_order.proofs.OrderLaws.{Reads-within, Reaches-within, Reaches-trans}
use Rattle.lp_spec_design.specs.Keys.{Name}
use Rattle.lp_spec_design.specs.Netlists.{Structure, first, module_named, is_instantiated, top_of, upward}
use Rattle.lp_spec_design.specs.Graph.{and_more, some_of}
use Rattle.lp_spec_design.specs.Winners.{IsIn}
use Rattle.lp_spec_design.proofs.Members.{IsApart, no-longer}
use Rattle.lp_spec_faults.specs.Modules.{modules_in}
use Rattle.lp_targets.specs.declared.target.Target.{Target}
use Rattle.lp_targets.specs.Children.{children}
use Rattle.lp_targets.specs.Sizes.{in_module, IsResolved}
use Rattle.lp_targets.proofs.Recursion.{same_place, read}
use Rattle.lp_targets.proofs.Looping.{stands, count, in_module as child_in_module}
use Rattle.lp_targets.proofs.Upward.{in_upward, count_upward}
use Rattle.lp_targets.proofs.Together.{within, by_module}
use Rattle.lp_targets.proofs.Summed.{never}

-- ---- lists

first_found : {A : Type 0} (p : A → Bool) (xs : List A) (a : ℕ) (x : A) → slice_get xs a ≡ Some x → p x ≡ true → (y : A) × (first p xs ≡ Some y) × (p y ≡ true)
first_found p [] a x at e = cc
first_found p (y ∷ xs) zero x at e =
    let is : y ≡ x = cc in
    (y, ap (λ b. cond b (Some y) (first p xs)) (ap p is ∙ e), ap p is ∙ e)
first_found {A = A} p (y ∷ xs) (suc a) x at e = by (p y) refl (first_found p xs a x at e)
  where
    by : (b : Bool) → p y ≡ b → (z : A) × (first p xs ≡ Some z) × (p z ≡ true) → (z : A) × (cond b (Some y) (first p xs) ≡ Some z) × (p z ≡ true)
    by true t rest = (y, refl, t)
    by false t rest = rest

any_place : {A : Type 0} (p : A → Bool) (xs : List A) → list_any p xs ≡ true → (a : ℕ) × (x : A) × (slice_get xs a ≡ Some x) × (p x ≡ true)
any_place p [] e = cc
any_place {A = A} p (x ∷ xs) e = by (p x) refl e (any_place p xs)
  where
    by : (b : Bool) → p x ≡ b → (b || list_any p xs) ≡ true → (list_any p xs ≡ true → (a : ℕ) × (y : A) × (slice_get xs a ≡ Some y) × (p y ≡ true)) → (a : ℕ) × (y : A) × (slice_get (x ∷ xs) a ≡ Some y) × (p y ≡ true)
    by true t h rest = (0, x, refl, t)
    by false t h rest = let far = rest h in (suc far.0, far.1, far.2, far.3)

none_kept : {A : Type 0} (p : A → Bool) (xs : List A) → length (filter p xs) ≡ 0 → (a : ℕ) (x : A) → slice_get xs a ≡ Some x → p x ≡ true → ⊥
none_kept p [] none a x at e = cc
none_kept {A = A} p (y ∷ xs) none a x at e = by (p y) refl none (none_kept p xs) a at
  where
    by : (b : Bool) → p y ≡ b → length (cond b (y ∷ filter p xs) (filter p xs)) ≡ 0 → (length (filter p xs) ≡ 0 → (a : ℕ) (z : A) → slice_get xs a ≡ Some z → p z ≡ true → ⊥) → (a : ℕ) → slice_get (y ∷ xs) a ≡ Some x → ⊥
    by true t n rest a at = omega (arith, n)
    by false t n rest zero at =
        let is : y ≡ x = cc in
        true≢false (sym e ∙ ap p (sym is) ∙ t)
    by false t n rest (suc a) at = rest n a x at e

pub kept_one : {A : Type 0} (p : A → Bool) (xs : List A) → length (filter p xs) ≡ 1 → (x : A) × (first p xs ≡ Some x)
kept_one p [] one = absurd (omega (arith, one))
kept_one {A = A} p (x ∷ xs) one = by (p x) one (kept_one p xs)
  where
    by : (b : Bool) → length (cond b (x ∷ filter p xs) (filter p xs)) ≡ 1 → (length (filter p xs) ≡ 1 → (y : A) × (first p xs ≡ Some y)) → (y : A) × (cond b (Some x) (first p xs) ≡ Some y)
    by true n rest = (x, refl)
    by false n rest = rest n

only_one : {A : Type 0} (p : A → Bool) (xs : List A) → length (filter p xs) ≡ 1 → (a : ℕ) (x : A) → slice_get xs a ≡ Some x → p x ≡ true → first p xs ≡ Some x
only_one p [] one a x at e = cc
only_one {A = A} p (y ∷ xs) one a x at e = by (p y) refl one (only_one p xs) a at
  where
    by : (b : Bool) → p y ≡ b → length (cond b (y ∷ filter p xs) (filter p xs)) ≡ 1 → (length (filter p xs) ≡ 1 → (a : ℕ) (z : A) → slice_get xs a ≡ Some z → p z ≡ true → first p xs ≡ Some z) → (a : ℕ) → slice_get (y ∷ xs) a ≡ Some x → cond b (Some y) (first p xs) ≡ Some x
    by true t n rest zero at = at
    by true t n rest (suc a) at = let none : length (filter p xs) ≡ 0 = omega (arith, n) in absurd (none_kept p xs none a x at e)
    by false t n rest zero at =
        let is : y ≡ x = cc in
        absurd (true≢false (sym e ∙ ap p (sym is) ∙ t))
    by false t n rest (suc a) at = rest n a x at e

one_of_sum : {A : Type 0} (f : A → ℕ) (x : A) (xs : List A) → IsIn x xs → f x ≤ sum_by f xs
one_of_sum f x [] h = absurd h
one_of_sum f x (y ∷ xs) (inl is) = let same : f x ≡ f y = ap f is in omega (arith, same, sum_by-cons f y xs)
one_of_sum f x (y ∷ xs) (inr h) = omega (arith, one_of_sum f x xs h, sum_by-cons f y xs)

-- ---- parents

or_true : (a b : Bool) → b ≡ true → (a || b) ≡ true
or_true true b e = refl
or_true false b e = e

one_more : (n : Name) (o : Option ModuleView) (rest : List ModuleView) → list_any (λ (k : ModuleView). bytes_eq k.name n) rest ≡ true → list_any (λ (k : ModuleView). bytes_eq k.name n) (and_more o rest) ≡ true
one_more n None rest e = e
one_more n (Some y) rest e = or_true (bytes_eq y.name n) (list_any (λ (k : ModuleView). bytes_eq k.name n) rest) e

-- an instance of a name is an instance of the module of that name
named_in : (s : Structure) (n : Name) (x : ModuleView) → module_named s n ≡ Some x → bytes_eq x.name n ≡ true → (xs : List InstanceView) → list_any (λ (i : InstanceView). bytes_eq i.target n) xs ≡ true → list_any (λ (k : ModuleView). bytes_eq k.name n) (some_of (λ (i : InstanceView). module_named s i.target) xs) ≡ true
named_in s n x found same [] e = cc
named_in s n x found same (i ∷ xs) e = by (bytes_eq i.target n) refl e (named_in s n x found same xs)
  where
    by : (b : Bool) → bytes_eq i.target n ≡ b → (b || list_any (λ (j : InstanceView). bytes_eq j.target n) xs) ≡ true → (list_any (λ (j : InstanceView). bytes_eq j.target n) xs ≡ true → list_any (λ (k : ModuleView). bytes_eq k.name n) (some_of (λ (j : InstanceView). module_named s j.target) xs) ≡ true) → list_any (λ (k : ModuleView). bytes_eq k.name n) (and_more (module_named s i.target) (some_of (λ (j : InstanceView). module_named s j.target) xs)) ≡ true
    by true t h more =
        let target : i.target ≡ n = same_text-true i.target n t in
        ap (λ o. list_any (λ (k : ModuleView). bytes_eq k.name n) (and_more o (some_of (λ (j : InstanceView). module_named s j.target) xs))) (ap (module_named s) target ∙ found)
        ∙ ap (λ b. b || list_any (λ (k : ModuleView). bytes_eq k.name n) (some_of (λ (j : InstanceView). module_named s j.target) xs)) same
    by false t h more = one_more n (module_named s i.target) (some_of (λ (j : InstanceView). module_named s j.target) xs) (more h)

-- a module that none instantiates, and that is or leads to a place
pub record IsOver (s : Structure) (graph : List (List ℕ)) (b : ℕ) : Type 0 where
  pub place : ℕ
  pub top : ModuleView
  pub stands_there : slice_get s.modules place ≡ Some top
  pub free : is_instantiated s top.name ≡ false
  pub leads : (place ≡ b) ⊎ Reaches graph place b

module _ (s : Structure) (rows : List (List Target)) (order : List ℕ) (top : ℕ) (resolved : IsResolved s rows order top) where
  abbrev Stands : ℕ → ModuleView → Type 0
  Stands a m = slice_get s.modules a ≡ Some m

  parent : (b : ℕ) (m : ModuleView) → Stands b m → is_instantiated s m.name ≡ true → (a : ℕ) × Reads (children rows) a b
  parent b m at e =
      let found = first_found (λ (x : ModuleView). bytes_eq x.name m.name) s.modules b m at (true-same_text m.name m.name refl) in
      let over = any_place (λ (k : ModuleView). list_any (λ (i : InstanceView). bytes_eq i.target m.name) k.instances) s.modules e in
      let has = named_in s m.name found.0 found.1 found.2 over.1.instances over.3 in
      let child = read s rows resolved.known.targets resolved.apart (λ (k : ModuleView). bytes_eq k.name m.name) over.0 over.1 over.2 has in
      let is : child.0 ≡ b = same_place s rows resolved.known.targets resolved.apart b child.0 m child.1 at child.3 (same_text-true child.1.name m.name child.4) in
      (over.0, subst (Reads (children rows) over.0) is child.2)

  -- the places on the way up from one, to all of which a place leads
  abbrev Under : List ℕ → ℕ → Type 0
  Under vs a = (z : ℕ) → IsIn z vs → Reaches (children rows) a z × (z < length s.modules)

  few : (vs : List ℕ) (a : ℕ) → a < length s.modules → Under vs a → IsApart (a ∷ vs) → length vs < length s.modules
  few vs a low under apart =
      let most : length (a ∷ vs) ≤ length (upward (length s.modules) 0) = no-longer (a ∷ vs) (upward (length s.modules) 0) apart (λ (z : ℕ) (h : IsIn z (a ∷ vs)). let below : z < length s.modules = inside z h in in_upward (length s.modules) 0 z (omega arith) (omega (arith, below))) in
      omega (arith, most, count_upward (length s.modules) 0)
    where
      inside : (z : ℕ) → IsIn z (a ∷ vs) → z < length s.modules
      inside z (inl is) = subst (λ x. x < length s.modules) (sym is) low
      inside z (inr there) = (under z there).1

  over_child : (a b : ℕ) → Reads (children rows) a b → IsOver s (children rows) a → IsOver s (children rows) b
  over_child a b r o = record {
    place = o.place;
    top = o.top;
    stands_there = o.stands_there;
    free = o.free;
    leads = inr (elim o.leads [ inl is ↦ one_read (subst (λ x. Reads (children rows) x b) (sym is) r) | inr far ↦ Reaches-trans (children rows) o.place a b far (one_read r) ]);
  }

  climb : (n : ℕ) (vs : List ℕ) (a : ℕ) (m : ModuleView) → Stands a m → Under vs a → IsApart (a ∷ vs) → length s.modules ≤ n + length vs → IsOver s (children rows) a
  climb zero vs a m at under apart h = absurd (omega (arith, h, few vs a (within s.modules a m at) under apart))
  climb (suc n) vs a m at under apart h = by (is_instantiated s m.name) refl (climb n)
    where
      by : (b : Bool) → is_instantiated s m.name ≡ b → ((vs : List ℕ) (a : ℕ) (m : ModuleView) → Stands a m → Under vs a → IsApart (a ∷ vs) → length s.modules ≤ n + length vs → IsOver s (children rows) a) → IsOver s (children rows) a
      by false e up = record { place = a; top = m; stands_there = at; free = e; leads = inl refl }
      by true e up =
          let p = parent a m at e in
          let there = stands s.modules p.0 (subst (λ k. p.0 < k) (count s rows resolved.known.targets) (Reads-within (children rows) p.0 a p.1)) in
          let loop : Reaches (children rows) p.0 p.0 → ⊥ = λ r. never s rows order top resolved (p.0, r) in
          let under_p : Under (a ∷ vs) p.0 = λ z inside. elim inside [
            | inl is ↦ (subst (Reaches (children rows) p.0) (sym is) (one_read p.1), subst (λ x. x < length s.modules) (sym is) (within s.modules a m at))
            | inr far ↦ (more_reads p.1 (under z far).0, (under z far).1)
          ] in
          let apart_p : IsApart (p.0 ∷ a ∷ vs) = ((λ inside. loop (under_p p.0 inside).0), apart) in
          over_child p.0 a p.1 (up (a ∷ vs) p.0 there.0 there.1 under_p apart_p (omega (arith, h)))

  over : (a : ℕ) (m : ModuleView) → Stands a m → IsOver s (children rows) a
  over a m at = climb (length s.modules) [] a m at (λ z h. absurd h) ((λ h. h), tt) (omega arith)

  -- ---- what is below has no more

  module _ (each : ModuleView → ℕ) where
    no_more : (a b : ℕ) (m k : ModuleView) → Stands a m → Stands b k → Reads (children rows) a b → in_module s each k ≤ in_module s each m
    no_more a b m k at there r =
        omega (
          arith,
          by_module s rows each a m resolved.known.targets (never s rows order top resolved) at,
          one_of_sum (in_module s each) k (modules_in s m) (child_in_module s rows resolved.known.targets a b m k at there r),
        )

    less : (a b : ℕ) → Reaches (children rows) a b → (m k : ModuleView) → Stands a m → Stands b k → in_module s each k ≤ in_module s each m
    less a b (one_read r) m k at there = no_more a b m k at there r
    less a c (more_reads {b = b} r far) m k at there =
        let next = stands s.modules b (subst (λ n. b < n) (count s rows resolved.known.targets) (Reaches-within (children rows) b c far)) in
        omega (arith, no_more a b m next.0 at next.1 r, less b c far next.0 k next.1 there)

    pub below_top : (t : ModuleView) → top_of s ≡ Some t → (a : ℕ) (m : ModuleView) → Stands a m → in_module s each m ≤ in_module s each t
    below_top t is a m at =
        let o = over a m at in
        let kept : top_of s ≡ Some o.top = only_one (λ (x : ModuleView). not (is_instantiated s x.name)) s.modules resolved.one o.place o.top o.stands_there (not_from_false (is_instantiated s o.top.name) o.free) in
        let same : o.top ≡ t = cc in
        elim o.leads [
          | inl here ↦
              let both : Some o.top ≡ Some m = sym o.stands_there ∙ ap (slice_get s.modules) here ∙ at in
              let top_is : m ≡ t = cc in
              subst (λ x. in_module s each m ≤ in_module s each x) top_is (omega arith)
          | inr far ↦ subst (λ x. in_module s each m ≤ in_module s each x) same (less o.place a far o.top m o.stands_there at)
        ]
