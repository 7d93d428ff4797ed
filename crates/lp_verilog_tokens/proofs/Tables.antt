-- Tests by a table: held against the definition at each byte, by computing.
use Rattle.std.proofs.Common.{◌≡◌, ℕ, zero, suc, ◌<◌, Bool, true, false, refl, inl, inr, arith}
use Rattle.std.specs.Prelude.{◌&&◌}
use Rattle.std.proofs.lemmas.Bool.{and_parts, cases_eq}

abbrev pub is_same : Bool → Bool → Bool
is_same true b = b
is_same false true = false
is_same false false = true

same : (a b : Bool) → is_same a b ≡ true → a ≡ b
same true true e = refl
same false false e = refl
same _ _ e = absurd cc

-- two tests are the same at each byte below n
abbrev pub same_below : (ℕ → Bool) → (ℕ → Bool) → ℕ → Bool
same_below f g zero = true
same_below f g (suc n) = is_same (f n) (g n) && same_below f g n

pub same_below_at : (f g : ℕ → Bool) (n b : ℕ) → same_below f g n ≡ true → b < n → f b ≡ g b
same_below_at f g zero b e l = absurd (omega arith)
same_below_at f g (suc n) b e l =
    let parts = and_parts (is_same (f n) (g n)) (same_below f g n) e in
    elim (cases_eq b n) [
      | inl is ↦ rw is (same (f n) (g n) parts.0)
      | inr other ↦ same_below_at f g n b parts.1 (omega arith)
    ]
