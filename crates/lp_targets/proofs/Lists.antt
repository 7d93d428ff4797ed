-- The first of lists one behind another.
use Rattle.std.proofs.Common.{◌≡◌, Bool, true, false, cond, List, [], ◌∷◌, ◌++◌, Option, Some, None, refl, sym, ap, ◌∙◌}
use Rattle.std.specs.Prelude.{is_some}
use Rattle.lp_spec_design.specs.Netlists.{first}
use Rattle.lp_targets.specs.Reports.{or_else}

pub first-append : {A : Type 0} (p : A → Bool) (xs ys : List A) → first p (xs ++ ys) ≡ or_else (first p xs) (first p ys)
first-append p [] ys = refl
first-append p (x ∷ xs) ys = ap (cond (p x) (Some x)) (first-append p xs ys) ∙ by (p x)
  where
    by : (b : Bool) → cond b (Some x) (or_else (first p xs) (first p ys)) ≡ or_else (cond b (Some x) (first p xs)) (first p ys)
    by true = refl
    by false = refl

-- a part that has one
pub first_here : {A : Type 0} (p : A → Bool) (xs ys : List A) (r : Option A) → r ≡ first p xs → is_some r ≡ true → r ≡ first p (xs ++ ys)
first_here {A = A} p xs ys r e some = by r some e ∙ sym (first-append p xs ys)
  where
    by : (r : Option A) → is_some r ≡ true → r ≡ first p xs → r ≡ or_else (first p xs) (first p ys)
    by None s e = cc
    by (Some x) s e = ap (λ o. or_else o (first p ys)) e

-- a part that has none
pub first_behind : {A : Type 0} (p : A → Bool) (xs ys : List A) (r q : Option A) → r ≡ first p xs → is_some r ≡ false → q ≡ first p ys → q ≡ first p (xs ++ ys)
first_behind {A = A} p xs ys r q e none f = f ∙ by r none e ∙ sym (first-append p xs ys)
  where
    by : (r : Option A) → is_some r ≡ false → r ≡ first p xs → first p ys ≡ or_else (first p xs) (first p ys)
    by None s e = ap (λ o. or_else o (first p ys)) e
    by (Some x) s e = cc
