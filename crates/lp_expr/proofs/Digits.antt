-- Binary digits of places, and places of digits.
use Rattle.std.proofs.Common.{◌≡◌, ℕ, zero, suc, ◌+◌, ◌*◌, ◌/◌, ◌%◌, ◌^◌, ◌<◌, ◌≤◌, Bool, true, false, cond, eqb, get_or, length, List, [], ◌∷◌, refl, sym, ap, ◌∙◌, arith}
use Rattle.std.proofs.lemmas.List.{get_or_past}
use Rattle.std.proofs.lemmas.Nat.Bits.{bit_at-suc, bit_at_lowest}
use Rattle.lp_expr.specs.Formula.{digits}
use Rattle.lp_expr.specs.Table.{is_bit}
use Rattle.lp_expr.specs.Places.{place_of}

pub length-digits : (n k : ℕ) → length (digits n k) ≡ n
length-digits zero k = refl
length-digits (suc n) k = ap suc (length-digits n (k / 2))

pub is_bit-suc : (k i : ℕ) → is_bit k (suc i) ≡ is_bit (k / 2) i
is_bit-suc k i = ap (λ x. eqb x 1) (bit_at-suc k i)

pub get_or-digits : (n k i : ℕ) → i < n → get_or (digits n k) i false ≡ is_bit k i
get_or-digits zero k i h = absurd (omega arith)
get_or-digits (suc n) k zero h = sym (ap (λ x. eqb x 1) (bit_at_lowest k))
get_or-digits (suc n) k (suc i) h = get_or-digits n (k / 2) i (omega arith) ∙ sym (is_bit-suc k i)

pub get_or-digits_past : (n k i : ℕ) → n ≤ i → get_or (digits n k) i false ≡ false
get_or-digits_past n k i h = get_or_past (digits n k) i false (omega (arith, length-digits n k))

-- places have their digits
pub digit-lt : (b : Bool) → cond b 1 0 < 2
digit-lt true = omega arith
digit-lt false = omega arith

digit-eqb : (b : Bool) → eqb (cond b 1 0) 1 ≡ b
digit-eqb true = refl
digit-eqb false = refl

half : (x b : ℕ) → b < 2 → (x * 2 + b) / 2 ≡ x
half x b h = omega arith

low : (x b : ℕ) → b < 2 → (x * 2 + b) % 2 ≡ b
low x b h = omega arith

pub digits-place_of : (c : List Bool) → digits (length c) (place_of c) ≡ c
digits-place_of [] = refl
digits-place_of (b ∷ c) =
    let head : eqb ((place_of c * 2 + cond b 1 0) % 2) 1 ≡ b = ap (λ x. eqb x 1) (low (place_of c) (cond b 1 0) (digit-lt b)) ∙ digit-eqb b in
    let rest : digits (length c) ((place_of c * 2 + cond b 1 0) / 2) ≡ c = ap (digits (length c)) (half (place_of c) (cond b 1 0) (digit-lt b)) ∙ digits-place_of c in
    ap (λ x. x ∷ digits (length c) ((place_of c * 2 + cond b 1 0) / 2)) head ∙ ap (λ xs. b ∷ xs) rest

pub place_of-lt : (c : List Bool) → place_of c < 2 ^ length c
place_of-lt [] = omega arith
place_of-lt (b ∷ c) = let p : 2 ^ suc (length c) ≡ 2 ^ length c * 2 = omega arith in omega (arith, p, place_of-lt c, digit-lt b)

pub is_bit-place_of-zero : (b : Bool) (c : List Bool) → is_bit (place_of (b ∷ c)) 0 ≡ b
is_bit-place_of-zero b c = ap (λ x. eqb x 1) (bit_at_lowest (place_of c * 2 + cond b 1 0) ∙ low (place_of c) (cond b 1 0) (digit-lt b)) ∙ digit-eqb b

pub is_bit-place_of-suc : (b : Bool) (c : List Bool) (i : ℕ) → is_bit (place_of (b ∷ c)) (suc i) ≡ is_bit (place_of c) i
is_bit-place_of-suc b c i = is_bit-suc (place_of c * 2 + cond b 1 0) i ∙ ap (λ k. is_bit k i) (half (place_of c) (cond b 1 0) (digit-lt b))
