-- The digits of a number are visible.
use Rattle.std.proofs.Common.{◌≡◌, ◌<◌, ◌+◌, ◌==◌, ℕ, zero, suc, Bool, true, false, List, [], ◌∷◌, refl, ap, ◌∙◌, arith}
use Rattle.std.specs.Prelude.{◌/◌, ◌%◌, decimal, nat_le, if◌then◌else◌}
use Rattle.std.specs.List.{list_all}
use Rattle.std.specs.Fmt.{digit_glyph, digits_onto, digits}
use Rattle.std.proofs.Math.Nat.{mod-lt}
use Rattle.std.proofs.lemmas.Bool.{and_from, le-leb, lt-ltb}
use Rattle.lp_verilog_tokens.specs.Lexical.{is_visible}

digit-visible : (d : ℕ) → d < 10 → is_visible (digit_glyph false d) ≡ true
digit-visible d low =
    ap (λ b. is_visible (if b then 48 + d else 87 + d)) (lt-ltb d 10 low)
    ∙ and_from (nat_le 33 (48 + d)) (nat_le (48 + d) 126) (le-leb 33 (48 + d) (omega arith)) (le-leb (48 + d) 126 (omega (arith, low)))

digits-visible : (k n : ℕ) (rest : List ℕ) → list_all is_visible rest ≡ true → list_all is_visible (digits_onto k 10 false n rest) ≡ true
digits-visible zero n rest h = h
digits-visible (suc k) n rest h = by (n / 10 == 0) (digits-visible k (n / 10) (digit_glyph false (n % 10) ∷ rest) more)
  where
    more : list_all is_visible (digit_glyph false (n % 10) ∷ rest) ≡ true
    more = and_from (is_visible (digit_glyph false (n % 10))) (list_all is_visible rest) (digit-visible (n % 10) (mod-lt n (omega arith))) h

    by : (b : Bool) → list_all is_visible (digits_onto k 10 false (n / 10) (digit_glyph false (n % 10) ∷ rest)) ≡ true
        → list_all is_visible (if b then digit_glyph false (n % 10) ∷ rest else digits_onto k 10 false (n / 10) (digit_glyph false (n % 10) ∷ rest)) ≡ true
    by true g = more
    by false g = g

pub decimal-visible : (n : ℕ) → list_all is_visible (decimal n) ≡ true
unfolding digits
decimal-visible n = digits-visible 64 n [] refl
