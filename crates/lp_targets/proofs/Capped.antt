-- What a module has with all below it, up to a limit, by places.
use Rattle.std.proofs.Common.{◌≡◌, inl, inr, ℕ, ◌+◌, ◌<◌, min, List, [], ◌∷◌, ◌++◌, length, take, get_or, Some, refl, sym, ap, ◌∙◌, subst, arith, lt-ltb}
use Rattle.std.specs.Prelude.{nat_lt, map, slice_get, slice_index_or, sum_by}
use Rattle.std.specs.List.{Contains}
use Rattle.std.proofs.Math.Nat.{min-eq_left, min-eq_right}
use Rattle.std.proofs.lemmas.Bool.{cases_lt}
use Rattle.std.proofs.lemmas.List.Sums.{sum_by-cons, sum_by-append}
use Rattle.std.proofs.lemmas.List.{take_more}
use Rattle.std.proofs.lemmas.List.Elements.{at_from_Contains}
use Rattle.lp_model.specs.NetlistView.{InstanceView, ModuleView}
use Rattle.lp_order.specs.Order.{row_of, Reads, ReadsBelow, HasLoop}
use Rattle.lp_order.proofs.OrderLaws.{Contains-first, Contains-behind, Reads-within}
use Rattle.lp_spec_design.specs.Netlists.{Structure, module_named}
use Rattle.lp_spec_design.specs.Graph.{and_more, some_of}
use Rattle.lp_spec_faults.specs.Modules.{modules_in, together}
use Rattle.lp_targets.specs.declared.target.Target.{Target}
use Rattle.lp_targets.specs.declared.target.Target.TheVariants.{OfModule, OfCell}
use Rattle.lp_targets.specs.Targets.{module_of, AreTargets}
use Rattle.lp_targets.specs.Children.{children_of, children}
use Rattle.lp_targets.proofs.Looping.{count, stands}
use Rattle.lp_targets.proofs.Recursion.{at_place, row_at, some_map}
use Rattle.lp_loops.proofs.Below.{read_below}
use Rattle.lp_targets.proofs.Closed.{closed_children}
use Rattle.lp_targets.proofs.Together.{by_module}

-- one part up to the limit
pub min_part : (limit a x rest : ℕ) → min limit (a + x + rest) ≡ min limit (a + min limit x + rest)
min_part limit a x rest =
    elim (cases_lt limit x) [
      | inl over ↦
          let part : min limit x ≡ limit = min-eq_left (omega (arith, over)) in
          let whole : min limit (a + x + rest) ≡ limit = min-eq_left (omega (arith, over)) in
          let capped : min limit (a + limit + rest) ≡ limit = min-eq_left (omega arith) in
          whole ∙ sym capped ∙ sym (ap (λ y. min limit (a + y + rest)) part)
      | inr under ↦
          let part : min limit x ≡ x = min-eq_right under in
          sym (ap (λ y. min limit (a + y + rest)) part)
    ]

pub tells_over : (limit n : ℕ) → nat_lt limit (min (limit + 1) n) ≡ nat_lt limit n
tells_over limit n =
    elim (cases_lt limit n) [
      | inl over ↦
          let kept : min (limit + 1) n ≡ limit + 1 = min-eq_left (omega (arith, over)) in
          let next : limit < limit + 1 = omega arith in
          ap (nat_lt limit) kept ∙ lt-ltb limit (limit + 1) next ∙ sym (lt-ltb limit n over)
      | inr under ↦ ap (nat_lt limit) (min-eq_right (omega (arith, under)))
    ]

min_sum : {A : Type 0} (limit a : ℕ) (f : A → ℕ) (xs : List A) → min limit (a + sum_by f xs) ≡ min limit (a + sum_by (λ x. min limit (f x)) xs)
min_sum limit a f [] = refl
min_sum limit a f (x ∷ xs) =
    let split : a + sum_by f (x ∷ xs) ≡ a + f x + sum_by f xs = omega (arith, sum_by-cons f x xs) in
    let joined : a + min limit (f x) + sum_by (λ y. min limit (f y)) xs ≡ a + sum_by (λ y. min limit (f y)) (x ∷ xs) = omega (arith, sum_by-cons (λ y. min limit (f y)) x xs) in
    ap (min limit) split ∙ min_sum limit (a + f x) f xs ∙ min_part limit a (f x) (sum_by (λ y. min limit (f y)) xs) ∙ ap (min limit) joined

pub children-push : (xs : List Target) (y : Target) → children_of (xs ++ y ∷ []) ≡ children_of xs ++ children_of (y ∷ [])
children-push [] y = refl
children-push (OfModule j ∷ xs) y = ap (λ ks. j ∷ ks) (children-push xs y)
children-push (OfCell j ∷ xs) y = children-push xs y

-- one target more of a row
pub row_more : (limit own total result : ℕ) (t : ℕ → ℕ) (row : List Target) (i : ℕ) (x : Target) → i < length row → x ≡ get_or row i x → total ≡ min limit (own + sum_by t (children_of (take i row))) → result ≡ min limit (total + sum_by t (children_of (x ∷ []))) → result ≡ min limit (own + sum_by t (children_of (take (i + 1) row)))
row_more limit own total result t row i x h is before now =
    let old : ℕ = own + sum_by t (children_of (take i row)) in
    let new : ℕ = sum_by t (children_of (x ∷ [])) in
    let left : min limit old + new ≡ 0 + min limit old + new = omega arith in
    let right : 0 + old + new ≡ old + new = omega arith in
    let capped : min limit (min limit old + new) ≡ min limit (old + new) = ap (min limit) left ∙ sym (min_part limit 0 old new) ∙ ap (min limit) right in
    let grown : children_of (take (i + 1) row) ≡ children_of (take i row) ++ children_of (x ∷ []) = ap children_of (take_more row i x h ∙ ap (λ y. take i row ++ y ∷ []) (sym is)) ∙ children-push (take i row) x in
    let sum : old + new ≡ own + sum_by t (children_of (take (i + 1) row)) = omega (arith, ap (sum_by t) grown, sum_by-append t (children_of (take i row)) (children_of (x ∷ []))) in
    now ∙ ap (λ n. min limit (n + new)) before ∙ capped ∙ ap (min limit) sum

module _ (s : Structure) (f : ModuleView → ℕ) (t : ℕ → ℕ) where
  place_sum : (row : List Target) → ((b : ℕ) → Contains (children_of row) b → (k : ModuleView) × (slice_get s.modules b ≡ Some k) × (t b ≡ f k)) → sum_by f (some_of (module_of s) row) ≡ sum_by t (children_of row)
  place_sum [] all = refl
  place_sum (OfCell j ∷ row) all = place_sum row all
  place_sum (OfModule j ∷ row) all =
      let here = all j (Contains-first j (children_of row) j refl) in
      let rest : sum_by f (some_of (module_of s) row) ≡ sum_by t (children_of row) = place_sum row (λ b c. all b (Contains-behind j (children_of row) b c)) in
      let own : t j ≡ f here.0 = here.2 in
      let sum : sum_by f (here.0 ∷ some_of (module_of s) row) ≡ sum_by t (j ∷ children_of row) = omega (arith, sum_by-cons f here.0 (some_of (module_of s) row), sum_by-cons t j (children_of row), rest, own) in
      ap (λ o. sum_by f (and_more o (some_of (module_of s) row))) here.1 ∙ sum

pub read_in : (s : Structure) (rows : List (List Target)) → AreTargets s rows → ReadsBelow (length rows) (children rows) → (a b : ℕ) → Reads (children rows) a b → b < length s.modules
read_in s rows targets below a b r =
    let found = at_from_Contains (row_of (children rows) a) b r in
    let inside = read_below (children rows) a found.0 (row_of (children rows) a) (closed_children rows (children rows) refl below) (Reads-within (children rows) a b r) refl found.1 in
    subst (λ n. b < n) (count s rows targets) (subst (λ x. x < length (children rows)) (found.2 0) inside)

pub by_place : (s : Structure) (rows : List (List Target)) (each : ModuleView → ℕ) (limit : ℕ) (table : List ℕ) (a : ℕ) (m : ModuleView) → AreTargets s rows → ReadsBelow (length rows) (children rows) → (HasLoop (children rows) → ⊥) → slice_get s.modules a ≡ Some m → ((b : ℕ) (k : ModuleView) → Reads (children rows) a b → slice_get s.modules b ≡ Some k → slice_index_or table b 0 ≡ min limit (together s each (length s.modules) k)) → min limit (together s each (length s.modules) m) ≡ min limit (each m + sum_by (λ b. slice_index_or table b 0) (row_of (children rows) a))
by_place s rows each limit table a m targets below never at right =
    let row = at_place (map (module_of s)) (λ (x : ModuleView). map (λ (i : InstanceView). module_named s i.target) x.instances) rows s.modules targets.modules a m at in
    let same : modules_in s m ≡ some_of (module_of s) row.0 = some_map (λ (i : InstanceView). module_named s i.target) m.instances ∙ sym (ap (some_of (λ o. o)) row.2) ∙ sym (some_map (module_of s) row.0) in
    let places : row_of (children rows) a ≡ children_of row.0 = row_at rows a row.0 row.1 in
    let capped : ModuleView → ℕ = λ k. min limit (together s each (length s.modules) k) in
    let at_table : ℕ → ℕ = λ b. slice_index_or table b 0 in
    let each_right : (b : ℕ) → Contains (children_of row.0) b → (k : ModuleView) × (slice_get s.modules b ≡ Some k) × (at_table b ≡ capped k) =
    λ b c.
    let r : Reads (children rows) a b = subst (λ ks. Contains ks b) (sym places) c in
    let there = stands s.modules b (read_in s rows targets below a b r) in
    (there.0, there.1, right b there.0 r there.1) in
    ap (min limit) (by_module s rows each a m targets never at)
    ∙ min_sum limit (each m) (together s each (length s.modules)) (modules_in s m)
    ∙ ap (λ ks. min limit (each m + sum_by capped ks)) same
    ∙ ap (λ n. min limit (each m + n)) (place_sum s capped at_table row.0 each_right)
    ∙ sym (ap (λ ks. min limit (each m + sum_by at_table ks)) places)
