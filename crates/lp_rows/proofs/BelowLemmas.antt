-- A test at each number below one.
use Rattle.std.proofs.Common.{◌≡◌, ◌<◌, ℕ, zero, suc, Bool, true, false, inl, inr, refl, sym, ap, ◌∙◌, arith}
use Rattle.std.proofs.lemmas.Bool.{and_parts, and_from, and_left, and_right, cases_eq}
use Rattle.lp_rows.specs.Leaks.{each_below}

pub each_below-at : (test : ℕ → Bool) (n o : ℕ) → each_below test n ≡ true → o < n → test o ≡ true
each_below-at test zero o e below = absurd (omega arith)
each_below-at test (suc n) o e below =
    let both = and_parts (test n) (each_below test n) e in
    elim (cases_eq o n) [ inl same ↦ ap test same ∙ both.0 | inr other ↦ each_below-at test n o both.1 (omega arith) ]

pub each_below-false : (test : ℕ → Bool) (n o : ℕ) → o < n → test o ≡ false → each_below test n ≡ false
each_below-false test zero o below e = absurd (omega arith)
each_below-false test (suc n) o below e =
    elim (cases_eq o n) [
      | inl same ↦ and_left (test n) (each_below test n) (sym (ap test same) ∙ e)
      | inr other ↦ and_right (test n) (each_below test n) (each_below-false test n o (omega arith) e)
    ]

pub each_below-from : (test : ℕ → Bool) (n : ℕ) → ((o : ℕ) → o < n → test o ≡ true) → each_below test n ≡ true
each_below-from test zero all = refl
each_below-from test (suc n) all = and_from (test n) (each_below test n) (all n (omega arith)) (each_below-from test n (λ o below. all o (omega arith)))
