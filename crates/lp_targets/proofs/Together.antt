-- Where no module contains itself, no chain of module instances is longer than there are modules.
use Rattle.std.proofs.Common.{◌≡◌, inl, inr, ℕ, zero, suc, ◌+◌, ◌-◌, ◌<◌, ◌≤◌, List, [], ◌∷◌, length, Option, Some, None, refl, sym, ap, ◌∙◌, subst, arith}
use Rattle.std.specs.Prelude.{map, slice_get, sum_by}
use Rattle.std.specs.List.{Contains}
use Rattle.std.proofs.lemmas.List.Sums.{sum_by-cons}
use Rattle.lp_model.specs.NetlistView.{InstanceView, ModuleView}
use Rattle.lp_order.specs.Order.{Reads, Reaches, one_read, HasLoop}
use Rattle.lp_order.proofs.OrderLaws.{Contains-first, Contains-behind, Reaches-within, Reaches-trans}
use Rattle.lp_spec_design.specs.Netlists.{Structure, module_named, upward}
use Rattle.lp_spec_design.specs.Graph.{and_more, some_of}
use Rattle.lp_spec_design.specs.Winners.{IsIn}
use Rattle.lp_spec_design.proofs.Members.{IsApart, no-longer}
use Rattle.lp_spec_faults.specs.Modules.{modules_in, together}
use Rattle.lp_targets.specs.declared.target.Target.{Target}
use Rattle.lp_targets.specs.declared.target.Target.TheVariants.{OfModule, OfCell}
use Rattle.lp_targets.specs.Targets.{module_of, AreTargets}
use Rattle.lp_targets.specs.Children.{children_of, children}
use Rattle.lp_targets.proofs.Looping.{count}
use Rattle.lp_targets.proofs.Upward.{in_upward, count_upward}
use Rattle.lp_targets.proofs.Recursion.{at_place, row_at, some_map}

sum_same : {A : Type 0} (f g : A → ℕ) (xs : List A) → ((x : A) → IsIn x xs → f x ≡ g x) → sum_by f xs ≡ sum_by g xs
sum_same f g [] same = refl
sum_same f g (x ∷ xs) same =
    let first : f x ≡ g x = same x (inl refl) in
    let rest : sum_by f xs ≡ sum_by g xs = sum_same f g xs (λ y h. same y (inr h)) in
    omega (arith, sum_by-cons f x xs, sum_by-cons g x xs, first, rest)

pub within : {A : Type 0} (xs : List A) (a : ℕ) (x : A) → slice_get xs a ≡ Some x → a < length xs
within [] a x e = cc
within (y ∷ xs) zero x e = omega arith
within (y ∷ xs) (suc a) x e = omega (arith, within xs a x e)

module _ (s : Structure) (rows : List (List Target)) (targets : AreTargets s rows) where
  -- a module among these places
  abbrev Child : List ℕ → ModuleView → Type 0
  Child ks k = (b : ℕ) × Contains ks b × (slice_get s.modules b ≡ Some k)

  child_in : (row : List Target) (k : ModuleView) → IsIn k (some_of (module_of s) row) → Child (children_of row) k
  child_in [] k h = absurd h
  child_in (OfCell j ∷ row) k h = child_in row k h
  child_in (OfModule j ∷ row) k h = by (slice_get s.modules j) refl h (child_in row k)
    where
      behind : Child (children_of row) k → Child (j ∷ children_of row) k
      behind rest = (rest.0, Contains-behind j (children_of row) rest.0 rest.1, rest.2)

      by : (o : Option ModuleView) → slice_get s.modules j ≡ o → IsIn k (and_more o (some_of (module_of s) row)) → (IsIn k (some_of (module_of s) row) → Child (children_of row) k) → Child (j ∷ children_of row) k
      by None at h rest = behind (rest h)
      by (Some x) at (inl is) rest = (j, Contains-first j (children_of row) j refl, at ∙ ap Some (sym is))
      by (Some x) at (inr there) rest = behind (rest there)

  read_child : (a : ℕ) (m k : ModuleView) → slice_get s.modules a ≡ Some m → IsIn k (modules_in s m) → (b : ℕ) × Reads (children rows) a b × (slice_get s.modules b ≡ Some k)
  read_child a m k at h =
      let row = at_place (map (module_of s)) (λ (x : ModuleView). map (λ (i : InstanceView). module_named s i.target) x.instances) rows s.modules targets.modules a m at in
      let same : modules_in s m ≡ some_of (module_of s) row.0 = some_map (λ (i : InstanceView). module_named s i.target) m.instances ∙ sym (ap (some_of (λ o. o)) row.2) ∙ sym (some_map (module_of s) row.0) in
      let found = child_in row.0 k (subst (IsIn k) same h) in
      (found.0, subst (λ ks. Contains ks found.0) (sym (row_at rows a row.0 row.1)) found.1, found.2)

  -- the places above one, each of which leads to it
  abbrev Above : List ℕ → ℕ → Type 0
  Above vs a = (z : ℕ) → IsIn z vs → Reaches (children rows) z a

  above_child : (vs : List ℕ) (a b : ℕ) → Above vs a → Reads (children rows) a b → Above (a ∷ vs) b
  above_child vs a b above r z (inl is) = subst (λ x. Reaches (children rows) x b) (sym is) (one_read r)
  above_child vs a b above r z (inr there) = Reaches-trans (children rows) z a b (above z there) (one_read r)

  in_modules : (vs : List ℕ) (a z : ℕ) → a < length s.modules → Above vs a → IsIn z (a ∷ vs) → z < length s.modules
  in_modules vs a z low above (inl is) = subst (λ x. x < length s.modules) (sym is) low
  in_modules vs a z low above (inr there) = subst (λ n. z < n) (count s rows targets) (Reaches-within (children rows) z a (above z there))

  few_above : (vs : List ℕ) (a : ℕ) → a < length s.modules → Above vs a → IsApart (a ∷ vs) → length vs < length s.modules
  few_above vs a low above apart =
      let most : length (a ∷ vs) ≤ length (upward (length s.modules) 0) = no-longer (a ∷ vs) (upward (length s.modules) 0) apart (λ (z : ℕ) (h : IsIn z (a ∷ vs)). let below : z < length s.modules = in_modules vs a z low above h in in_upward (length s.modules) 0 z (omega arith) (omega (arith, below))) in
      omega (arith, most, count_upward (length s.modules) 0)

  module _ (each : ModuleView → ℕ) (never : HasLoop (children rows) → ⊥) where
    no_more : (n more : ℕ) (vs : List ℕ) (a : ℕ) (m : ModuleView) → slice_get s.modules a ≡ Some m → Above vs a → IsApart (a ∷ vs) → length s.modules ≤ n + length vs → together s each (n + more) m ≡ together s each n m
    no_more zero more vs a m at above apart h = absurd (omega (arith, h, few_above vs a (within s.modules a m at) above apart))
    no_more (suc n) more vs a m at above apart h =
        let next : suc n + more ≡ suc (n + more) = omega arith in
        ap (λ d. together s each d m) next ∙ ap (λ k. each m + k) (sum_same (together s each (n + more)) (together s each n) (modules_in s m)
        (λ k inside.
        let child = read_child a m k at inside in
        let over : Above (a ∷ vs) child.0 = above_child vs a child.0 above child.1 in
        no_more n more (a ∷ vs) child.0 k child.2 over ((λ again. never (child.0, over child.0 again)), apart) (omega (arith, h))))

    pub same_from : (more a : ℕ) (m : ModuleView) → slice_get s.modules a ≡ Some m → together s each (length s.modules + more) m ≡ together s each (length s.modules) m
    same_from more a m at = no_more (length s.modules) more [] a m at (λ z h. absurd h) ((λ h. h), tt) (omega arith)

    one_more : (a : ℕ) (m : ModuleView) → slice_get s.modules a ≡ Some m → together s each (suc (length s.modules)) m ≡ together s each (length s.modules) m
    one_more a m at =
        let next : length s.modules + 1 ≡ suc (length s.modules) = omega arith in
        sym (ap (λ n. together s each n m) next) ∙ same_from 1 a m at

pub enough : (s : Structure) (rows : List (List Target)) (each : ModuleView → ℕ) (depth a : ℕ) (m : ModuleView) → AreTargets s rows → (HasLoop (children rows) → ⊥) → slice_get s.modules a ≡ Some m → length s.modules ≤ depth → together s each depth m ≡ together s each (length s.modules) m
enough s rows each depth a m targets never at h =
    let whole : length s.modules + (depth - length s.modules) ≡ depth = omega (arith, h) in
    sym (ap (λ n. together s each n m) whole) ∙ same_from s rows targets each never (depth - length s.modules) a m at

pub by_module : (s : Structure) (rows : List (List Target)) (each : ModuleView → ℕ) (a : ℕ) (m : ModuleView) → AreTargets s rows → (HasLoop (children rows) → ⊥) → slice_get s.modules a ≡ Some m → together s each (length s.modules) m ≡ each m + sum_by (together s each (length s.modules)) (modules_in s m)
by_module s rows each a m targets never at = sym (one_more s rows targets each never a m at)
