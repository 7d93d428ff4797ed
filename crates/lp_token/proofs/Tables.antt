-- Classes by a table: held against the definition at each byte, by computing.
use Rattle.std.proofs.Common.{◌≡◌, ℕ, zero, suc, ◌<◌, Bool, true, false, refl, inl, inr, arith}
use Rattle.std.specs.Prelude.{◌&&◌}
use Rattle.std.proofs.lemmas.Bool.{and_parts, cases_eq}
use Rattle.lp_token.specs.Tokens.{Class, Blank, Inner, Single, Quote, Foreign}

abbrev pub is_same : Class → Class → Bool
is_same Blank Blank = true
is_same Inner Inner = true
is_same Single Single = true
is_same Quote Quote = true
is_same Foreign Foreign = true
is_same a b = false

same : (a b : Class) → is_same a b ≡ true → a ≡ b
same Blank Blank e = refl
same Inner Inner e = refl
same Single Single e = refl
same Quote Quote e = refl
same Foreign Foreign e = refl
same _ _ e = absurd cc

-- two classes are the same at each byte below n
abbrev pub same_below : (ℕ → Class) → (ℕ → Class) → ℕ → Bool
same_below f g zero = true
same_below f g (suc n) = is_same (f n) (g n) && same_below f g n

pub same_below_at : (f g : ℕ → Class) (n b : ℕ) → same_below f g n ≡ true → b < n → f b ≡ g b
same_below_at f g zero b e l = absurd (omega arith)
same_below_at f g (suc n) b e l =
    let parts = and_parts (is_same (f n) (g n)) (same_below f g n) e in
    elim (cases_eq b n) [
      | inl is ↦ rw is (same (f n) (g n) parts.0)
      | inr other ↦ same_below_at f g n b parts.1 (omega arith)
    ]
