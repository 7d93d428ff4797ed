-- Bits of words as Boolean values.
use Rattle.std.proofs.Common.{◌≡◌, ℕ, zero, suc, ◌+◌, ◌*◌, ◌-◌, ◌%◌, ◌^◌, ◌<◌, ◌≤◌, min, max, true, false, not, ◌&&◌, ◌||◌, eqb, get_or, [], ◌∷◌, List, refl, ap, ◌∙◌, arith}
use Rattle.std.specs.Int.{bit_at, bit_not, w64}
use Rattle.std.specs.Prelude.{bit_and, bit_or, bit_xor}
use Rattle.std.proofs.lemmas.Bool.{agree_below_at}
use Rattle.std.proofs.lemmas.Nat.Bits.{bit_at-lt, bit_at_and, bit_at_or, bit_at_xor, bit_at_not, bit_at_ones, bit_at-zero, bit_at_cat_low, bit_at_cat_high}
use Rattle.lp_expr.specs.Formula.{differ}
use Rattle.lp_expr.specs.Table.{is_bit}

-- digits as Boolean values
min-digits : (x y : ℕ) → x < 2 → y < 2 → eqb (min x y) 1 ≡ (eqb x 1 && eqb y 1)
min-digits zero zero h k = refl
min-digits zero (suc zero) h k = refl
min-digits (suc zero) zero h k = refl
min-digits (suc zero) (suc zero) h k = refl
min-digits (suc (suc x)) y h k = absurd (omega arith)
min-digits x (suc (suc y)) h k = absurd (omega arith)

max-digits : (x y : ℕ) → x < 2 → y < 2 → eqb (max x y) 1 ≡ (eqb x 1 || eqb y 1)
max-digits zero zero h k = refl
max-digits zero (suc zero) h k = refl
max-digits (suc zero) zero h k = refl
max-digits (suc zero) (suc zero) h k = refl
max-digits (suc (suc x)) y h k = absurd (omega arith)
max-digits x (suc (suc y)) h k = absurd (omega arith)

sum-digits : (x y : ℕ) → x < 2 → y < 2 → eqb ((x + y) % 2) 1 ≡ differ (eqb x 1) (eqb y 1)
sum-digits zero zero h k = refl
sum-digits zero (suc zero) h k = refl
sum-digits (suc zero) zero h k = refl
sum-digits (suc zero) (suc zero) h k = refl
sum-digits (suc (suc x)) y h k = absurd (omega arith)
sum-digits x (suc (suc y)) h k = absurd (omega arith)

not-digit : (x : ℕ) → x < 2 → eqb (1 - x) 1 ≡ not (eqb x 1)
not-digit zero h = refl
not-digit (suc zero) h = refl
not-digit (suc (suc x)) h = absurd (omega arith)

pub is_bit-and : (a b place : ℕ) → is_bit (bit_and a b) place ≡ (is_bit a place && is_bit b place)
is_bit-and a b place = ap (λ x. eqb x 1) (bit_at_and a b place) ∙ min-digits (bit_at a place) (bit_at b place) (bit_at-lt a place) (bit_at-lt b place)

pub is_bit-or : (a b place : ℕ) → is_bit (bit_or a b) place ≡ (is_bit a place || is_bit b place)
is_bit-or a b place = ap (λ x. eqb x 1) (bit_at_or a b place) ∙ max-digits (bit_at a place) (bit_at b place) (bit_at-lt a place) (bit_at-lt b place)

pub is_bit-xor : (a b place : ℕ) → is_bit (bit_xor a b) place ≡ differ (is_bit a place) (is_bit b place)
is_bit-xor a b place = ap (λ x. eqb x 1) (bit_at_xor a b place) ∙ sum-digits (bit_at a place) (bit_at b place) (bit_at-lt a place) (bit_at-lt b place)

pub is_bit-not : (a place : ℕ) → a < 2 ^ 64 → place < 64 → is_bit (bit_not w64 a) place ≡ not (is_bit a place)
is_bit-not a place small h = ap (λ x. eqb x 1) (bit_at_not w64 a place small h) ∙ not-digit (bit_at a place) (bit_at-lt a place)

pub is_bit-zero : (place : ℕ) → is_bit 0 place ≡ false
is_bit-zero place = ap (λ x. eqb x 1) (bit_at-zero place)

pub is_bit-ones : (place : ℕ) → place < 64 → is_bit (2 ^ 64 - 1) place ≡ true
is_bit-ones place h = ap (λ x. eqb x 1) (bit_at_ones 64 place h)

-- the digits of a number that is a word's number and a place in the word
pub is_bit_low : (number place i : ℕ) → i < 6 → is_bit (number * 64 + place) i ≡ is_bit place i
is_bit_low number place i h = ap (λ x. eqb x 1) (bit_at_cat_low number 6 place i h)

pub is_bit_high : (number place i : ℕ) → place < 64 → 6 ≤ i → is_bit (number * 64 + place) i ≡ is_bit number (i - 6)
is_bit_high number place i small h = ap (λ x. eqb x 1) (bit_at_cat_high number 6 place i small h)

-- the words of the first six variables
abbrev pub patterns : List ℕ
patterns = 0xAAAA_AAAA_AAAA_AAAA ∷ 0xCCCC_CCCC_CCCC_CCCC ∷ 0xF0F0_F0F0_F0F0_F0F0 ∷ 0xFF00_FF00_FF00_FF00 ∷ 0xFFFF_0000_FFFF_0000 ∷ 0xFFFF_FFFF_0000_0000 ∷ []

pub pattern_at : (i place : ℕ) → i < 6 → place < 64 → is_bit (get_or patterns i 0) place ≡ is_bit place i
pattern_at zero place h small = agree_below_at (λ k. is_bit 0xAAAA_AAAA_AAAA_AAAA k) (λ k. is_bit k 0) 64 place refl small
pattern_at (suc zero) place h small = agree_below_at (λ k. is_bit 0xCCCC_CCCC_CCCC_CCCC k) (λ k. is_bit k 1) 64 place refl small
pattern_at (suc (suc zero)) place h small = agree_below_at (λ k. is_bit 0xF0F0_F0F0_F0F0_F0F0 k) (λ k. is_bit k 2) 64 place refl small
pattern_at (suc (suc (suc zero))) place h small = agree_below_at (λ k. is_bit 0xFF00_FF00_FF00_FF00 k) (λ k. is_bit k 3) 64 place refl small
pattern_at (suc (suc (suc (suc zero)))) place h small = agree_below_at (λ k. is_bit 0xFFFF_0000_FFFF_0000 k) (λ k. is_bit k 4) 64 place refl small
pattern_at (suc (suc (suc (suc (suc zero))))) place h small = agree_below_at (λ k. is_bit 0xFFFF_FFFF_0000_0000 k) (λ k. is_bit k 5) 64 place refl small
pattern_at (suc (suc (suc (suc (suc (suc i)))))) place h small = absurd (omega arith)
