-- The numbers from one on.
use Rattle.std.proofs.Common.{◌≡◌, ◌≢◌, inl, inr, ℕ, zero, suc, ◌+◌, ◌<◌, ◌≤◌, ◌==◌, Bool, true, false, length, refl, sym, ap, ◌∙◌, arith}
use Rattle.std.proofs.lemmas.Bool.{true≢false, eqb-true, eq-eqb}
use Rattle.lp_spec_design.specs.Netlists.{upward}
use Rattle.lp_spec_design.specs.Winners.{IsIn}

pub in_upward : (n from z : ℕ) → from ≤ z → z < from + n → IsIn z (upward n from)
in_upward zero from z low high = absurd (omega (arith, low, high))
in_upward (suc n) from z low high = by (z == from) refl (in_upward n (from + 1) z)
  where
    by : (v : Bool) → (z == from) ≡ v → (from + 1 ≤ z → z < from + 1 + n → IsIn z (upward n (from + 1))) → IsIn z (upward (suc n) from)
    by true e more = inl (eqb-true z from e)
    by false e more =
        let other : z ≢ from = λ is. true≢false (sym (eq-eqb z from is) ∙ e) in
        inr (more (omega (arith, low, other)) (omega (arith, high)))

pub count_upward : (n from : ℕ) → length (upward n from) ≡ n
count_upward zero from = refl
count_upward (suc n) from = ap suc (count_upward n (from + 1))
