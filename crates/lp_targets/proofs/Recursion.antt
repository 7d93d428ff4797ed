-- A module that contains itself is on a loop of the places of children.
use Rattle.std.proofs.Common.{◌≡◌, ℕ, zero, suc, ◌<◌, Bool, true, false, ◌||◌, cond, List, [], ◌∷◌, length, Option, Some, None, refl, sym, ap, ◌∙◌, subst, arith}
use Rattle.std.specs.Prelude.{map, slice_get, slice_index_or, bytes_eq}
use Rattle.std.specs.List.{list_any, Contains}
use Rattle.lp_text.specs.Texts.{text_at, distinct, place_of, place_of-distinct, same_text-true}
use Rattle.lp_model.specs.NetlistView.{InstanceView, ModuleView}
use Rattle.lp_order.specs.Order.{Reads, Reaches, one_read, more_reads, IsOrder}
use Rattle.lp_order.proofs.OrderLaws.{Contains-first, Contains-behind, order-no_loop}
use Rattle.lp_spec_design.specs.Keys.{Name}
use Rattle.lp_spec_design.specs.Netlists.{Structure, first, module_named}
use Rattle.lp_spec_design.specs.Graph.{and_more, some_of}
use Rattle.lp_spec_faults.specs.Lines.{first_of}
use Rattle.lp_spec_faults.specs.Modules.{modules_in, is_within, recursive}
use Rattle.lp_targets.specs.declared.target.Target.{Target}
use Rattle.lp_targets.specs.declared.target.Target.TheVariants.{OfModule, OfCell}
use Rattle.lp_targets.specs.Targets.{module_of, AreTargets}
use Rattle.lp_targets.specs.Children.{children_of, children}

-- ---- lists

pub first_none : {A : Type 0} (p : A → Bool) (xs : List A) → ((a : ℕ) (x : A) → slice_get xs a ≡ Some x → p x ≡ true → ⊥) → first p xs ≡ None
first_none p [] never = refl
first_none p (x ∷ xs) never = by (p x) refl (first_none p xs (λ a y. never (suc a) y))
  where
    by : (b : Bool) → p x ≡ b → first p xs ≡ None → cond b (Some x) (first p xs) ≡ None
    by true e rest = absurd (never 0 x refl e)
    by false e rest = rest

-- two lists that are mapped alike, at one place
pub at_place : {A B C : Type 0} (f : A → C) (g : B → C) (xs : List A) (ys : List B) → map f xs ≡ map g ys → (a : ℕ) (y : B) → slice_get ys a ≡ Some y → (x : A) × (slice_get xs a ≡ Some x) × (f x ≡ g y)
at_place f g xs [] e a y at = cc
at_place f g [] (z ∷ ys) e a y at = cc
at_place f g (x ∷ xs) (z ∷ ys) e zero y at = let is : z ≡ y = cc in let same : f x ≡ g z = cc in (x, refl, same ∙ ap g is)
at_place f g (x ∷ xs) (z ∷ ys) e (suc a) y at = let rest : map f xs ≡ map g ys = cc in at_place f g xs ys rest a y at

pub row_at : (rows : List (List Target)) (a : ℕ) (row : List Target) → slice_get rows a ≡ Some row → slice_index_or (children rows) a [] ≡ children_of row
row_at [] a row e = cc
row_at (r ∷ rows) zero row e = let is : r ≡ row = cc in ap children_of is
row_at (r ∷ rows) (suc a) row e = row_at rows a row e

name_at : (ms : List ModuleView) (a : ℕ) (m : ModuleView) → slice_get ms a ≡ Some m → text_at (map (λ (x : ModuleView). x.name) ms) a ≡ m.name
name_at [] a m e = cc
name_at (x ∷ ms) zero m e = let is : x ≡ m = cc in ap (λ (y : ModuleView). y.name) is
name_at (x ∷ ms) (suc a) m e = name_at ms a m e

within : (ms : List ModuleView) (a : ℕ) (m : ModuleView) → slice_get ms a ≡ Some m → a < length (map (λ (x : ModuleView). x.name) ms)
within [] a m e = cc
within (x ∷ ms) zero m e = omega arith
within (x ∷ ms) (suc a) m e = omega (arith, within ms a m e)

-- those that are some, of options
pub some_map : {A B : Type 0} (f : A → Option B) (xs : List A) → some_of f xs ≡ some_of (λ o. o) (map f xs)
some_map f [] = refl
some_map f (x ∷ xs) = ap (and_more (f x)) (some_map f xs)

-- ---- children

module _ (s : Structure) (rows : List (List Target)) (targets : AreTargets s rows) (apart : distinct (map (λ (m : ModuleView). m.name) s.modules) ≡ true) where
  -- a module with its place
  abbrev Stands : ℕ → ModuleView → Type 0
  Stands a m = slice_get s.modules a ≡ Some m

  -- a child for which a test holds
  abbrev Child : (ModuleView → Bool) → List ℕ → Type 0
  Child test ks = (b : ℕ) × (k : ModuleView) × Contains ks b × Stands b k × (test k ≡ true)

  child : (test : ModuleView → Bool) (row : List Target) → list_any test (some_of (module_of s) row) ≡ true → Child test (children_of row)
  child test [] e = cc
  child test (OfCell j ∷ row) e = child test row e
  child test (OfModule j ∷ row) e = by (slice_get s.modules j) refl e (child test row)
    where
      behind : Child test (children_of row) → Child test (j ∷ children_of row)
      behind rest = (rest.0, rest.1, Contains-behind j (children_of row) rest.0 rest.2, rest.3, rest.4)

      pick : (k : ModuleView) → Stands j k → (v : Bool) → test k ≡ v → (v || list_any test (some_of (module_of s) row)) ≡ true → (list_any test (some_of (module_of s) row) ≡ true → Child test (children_of row)) → Child test (j ∷ children_of row)
      pick k at true t h rest = (j, k, Contains-first j (children_of row) j refl, at, t)
      pick k at false t h rest = behind (rest h)

      by : (o : Option ModuleView) → slice_get s.modules j ≡ o → list_any test (and_more o (some_of (module_of s) row)) ≡ true → (list_any test (some_of (module_of s) row) ≡ true → Child test (children_of row)) → Child test (j ∷ children_of row)
      by None at h rest = behind (rest h)
      by (Some k) at h rest = pick k at (test k) refl h rest

  pub read : (test : ModuleView → Bool) (a : ℕ) (m : ModuleView) → Stands a m → list_any test (modules_in s m) ≡ true → (b : ℕ) × (k : ModuleView) × Reads (children rows) a b × Stands b k × (test k ≡ true)
  read test a m at e =
      let row = at_place (map (module_of s)) (λ (x : ModuleView). map (λ (i : InstanceView). module_named s i.target) x.instances) rows s.modules targets.modules a m at in
      let same : modules_in s m ≡ some_of (module_of s) row.0 = some_map (λ (i : InstanceView). module_named s i.target) m.instances ∙ sym (ap (some_of (λ o. o)) row.2) ∙ sym (some_map (module_of s) row.0) in
      let found = child test row.0 (sym (ap (list_any test) same) ∙ e) in
      (found.0, found.1, subst (λ ks. Contains ks found.0) (sym (row_at rows a row.0 row.1)) found.2, found.3, found.4)

  abbrev Reached : Name → ℕ → Type 0
  Reached n a = (b : ℕ) × (k : ModuleView) × Reaches (children rows) a b × Stands b k × (bytes_eq k.name n ≡ true)

  reaches : (n : Name) (steps a : ℕ) (m : ModuleView) → Stands a m → is_within s n steps m ≡ true → Reached n a
  reaches n zero a m at e = cc
  reaches n (suc steps) a m at e =
      let step = read (λ (k : ModuleView). bytes_eq k.name n || is_within s n steps k) a m at e in
      by step.0 step.1 step.2 step.3 (bytes_eq step.1.name n) refl step.4 (reaches n steps)
    where
      by : (b : ℕ) (k : ModuleView) → Reads (children rows) a b → Stands b k → (v : Bool) → bytes_eq k.name n ≡ v → (v || is_within s n steps k) ≡ true → ((b : ℕ) (k : ModuleView) → Stands b k → is_within s n steps k ≡ true → Reached n b) → Reached n a
      by b k r there true t h go = (b, k, one_read r, there, t)
      by b k r there false t h go = let far = go b k there h in (far.0, far.1, more_reads r far.2, far.3, far.4)

  pub same_place : (a b : ℕ) (m k : ModuleView) → Stands a m → Stands b k → k.name ≡ m.name → b ≡ a
  same_place a b m k at there e =
      let names = map (λ (x : ModuleView). x.name) s.modules in
      let same : Some b ≡ Some a = sym (place_of-distinct names b apart (within s.modules b k there)) ∙ ap (λ t. place_of t names) (name_at s.modules b k there ∙ e ∙ sym (name_at s.modules a m at)) ∙ place_of-distinct names a apart (within s.modules a m at) in
      cc

  pub loops : (steps a : ℕ) (m : ModuleView) → Stands a m → is_within s m.name steps m ≡ true → Reaches (children rows) a a
  loops steps a m at e =
      let far = reaches m.name steps a m at e in
      subst (λ b. Reaches (children rows) a b) (same_place a far.0 m far.1 at far.3 (same_text-true far.1.name m.name far.4)) far.2

pub no_recursion : (s : Structure) (rows : List (List Target)) (order : List ℕ) → AreTargets s rows → distinct (map (λ (m : ModuleView). m.name) s.modules) ≡ true → IsOrder (children rows) order → first_of (recursive s) ≡ None
no_recursion s rows order targets apart ordered =
    first_none (λ (m : ModuleView). is_within s m.name (length s.modules) m) s.modules
    (λ a m at e. order-no_loop (children rows) order ordered (a, loops s rows targets apart (length s.modules) a m at e))
