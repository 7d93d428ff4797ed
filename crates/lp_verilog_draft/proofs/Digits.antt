-- The digits of a constant in words of 32.
use Rattle.std.proofs.Common.{◌≡◌, ℕ, zero, suc, ◌+◌, ◌-◌, ◌/◌, ◌%◌, ◌^◌, ◌<◌, ◌≤◌, Bool, true, false, List, ◌∷◌, ◌++◌, map, refl, sym, ap, ◌∙◌, arith, append_assoc}
use Rattle.std.specs.Prelude.{nat_lt, ◌==◌, ◌&&◌}
use Rattle.std.proofs.lemmas.Bool.Decides.{nat_tests}
use Rattle.std.proofs.lemmas.Nat.{shr-shr, field_of, mod-pow-add}
use Rattle.lp_model.specs.declared.bits.Bit.{Bit}
use Rattle.lp_model.specs.declared.bits.Bit.TheVariants as bits
use Rattle.lp_verilog_draft.specs.Values.{indices, digit, constant_bits}

-- ---- one digit

zero-div : (k : ℕ) → 0 / 2 ^ k ≡ 0
zero-div k = omega arith

-- beyond 128 digits there are none
pub high-zero : (v p : ℕ) → v < 2 ^ 128 → 128 ≤ p → v / 2 ^ p ≡ 0
high-zero v p h l =
    let e : 128 + (p - 128) ≡ p = omega arith in
    let none : v / 2 ^ 128 ≡ 0 = omega arith in
    ap (λ (m : ℕ). v / 2 ^ m) (sym e) ∙ sym (shr-shr v 128 (p - 128)) ∙ ap (λ (m : ℕ). m / 2 ^ (p - 128)) none ∙ zero-div (p - 128)

plain-digit : (v p : ℕ) → v < 2 ^ 128 → digit v p ≡ ((v / 2 ^ p) % 2 == 1)
plain-digit v p h = by (nat_lt p 128) refl
  where
    by : (b : Bool) → nat_lt p 128 ≡ b → (b && ((v / 2 ^ p) % 2 == 1)) ≡ ((v / 2 ^ p) % 2 == 1)
    by true e = refl
    by false e =
        let far : 128 ≤ p = grind (arith, nat_tests) in
        let none = high-zero v p h far in
        rw none refl

low-bit : (z m : ℕ) → z % 2 ^ (m + 1) % 2 ≡ z % 2
low-bit z m =
    let split = mod-pow-add z m 1 in
    omega (arith, split)

-- a digit of a word is that of the number
pub word-digit : (v low p : ℕ) → v < 2 ^ 128 → p < 32 → digit (v / 2 ^ low % 2 ^ 32) p ≡ digit v (low + p)
word-digit v low p h l =
    let small : v / 2 ^ low % 2 ^ 32 < 2 ^ 128 = omega arith in
    let at : 32 - p - 1 + 1 + p ≡ 32 = omega arith in
    let field : v / 2 ^ low % 2 ^ 32 / 2 ^ p ≡ v / 2 ^ low / 2 ^ p % 2 ^ (32 - p - 1 + 1) =
    ap (λ (m : ℕ). v / 2 ^ low % 2 ^ m / 2 ^ p) (sym at) ∙ field_of (v / 2 ^ low) (32 - p - 1 + 1) p
    in
    let same : v / 2 ^ low % 2 ^ 32 / 2 ^ p % 2 ≡ v / 2 ^ (low + p) % 2 =
    ap (λ (m : ℕ). m % 2) field ∙ low-bit (v / 2 ^ low / 2 ^ p) (32 - p - 1) ∙ ap (λ (m : ℕ). m % 2) (shr-shr v low p)
    in
    plain-digit (v / 2 ^ low % 2 ^ 32) p small ∙ ap (λ (m : ℕ). m == 1) same ∙ sym (plain-digit v (low + p) h)

-- ---- all digits

shifted : (f k n : ℕ) → indices false (f + 1) (k + 1) n ≡ indices false f k n
shifted f k zero = refl
shifted f k (suc n) =
    let here : f + 1 - (k + 1) ≡ f - k = omega arith in
    let more = shifted f (k + 1) n in
    rw (here, more) refl

-- the places below a number, from the highest one on
abbrev down : ℕ → List ℕ
down n = indices false (n - 1) 0 n

down-more : (n : ℕ) → down (suc n) ≡ n ∷ down n
down-more zero = refl
down-more (suc n) =
    let e : suc (suc n) - 1 ≡ n + 1 = omega arith in
    let f : suc n - 1 ≡ n = omega arith in
    let here : n + 1 - 0 ≡ suc n = omega arith in
    ap (λ (m : ℕ). indices false m 0 (suc (suc n))) e
    ∙ ap (λ (m : ℕ). m ∷ indices false (n + 1) (0 + 1) (suc n)) here
    ∙ ap (λ (is : List ℕ). suc n ∷ is) (shifted n 0 (suc n))
    ∙ ap (λ (m : ℕ). suc n ∷ indices false m 0 (suc n)) (sym f)

constant-more : (v n : ℕ) → constant_bits (suc n) v ≡ bits.Const (digit v n) ∷ constant_bits n v
constant-more v n = ap (map (λ place. bits.Const (digit v place))) (down-more n)

-- the highest digits, and the others
pub constant-split : (v low count : ℕ) → v < 2 ^ 128 → count ≤ 32 → constant_bits (count + low) v ≡ constant_bits count (v / 2 ^ low % 2 ^ 32) ++ constant_bits low v
constant-split v low zero h l = ap (λ (n : ℕ). constant_bits n v) (omega arith)
constant-split v low (suc n) h l =
    let word = v / 2 ^ low % 2 ^ 32 in
    let at : suc n + low ≡ suc (n + low) = omega arith in
    let turned : low + n ≡ n + low = omega arith in
    let within : n < 32 = omega arith in
    let fewer : n ≤ 32 = omega arith in
    let one : digit word n ≡ digit v (n + low) = word-digit v low n h within ∙ ap (digit v) turned in
    let more : constant_bits (n + low) v ≡ constant_bits n word ++ constant_bits low v = constant-split v low n h fewer in
    ap (λ (m : ℕ). constant_bits m v) at
    ∙ constant-more v (n + low)
    ∙ ap (λ (b : Bool). bits.Const b ∷ constant_bits (n + low) v) (sym one)
    ∙ ap (λ (bs : List Bit). bits.Const (digit word n) ∷ bs) more
    ∙ ap (λ (bs : List Bit). bs ++ constant_bits low v) (sym (constant-more word n))

-- one word more is put behind the others
pub word-kept : (old new all : List Bit) (v left next count word : ℕ) → v < 2 ^ 128 → count ≤ 32 → left ≡ count + next → word ≡ v / 2 ^ next % 2 ^ 32 → new ≡ old ++ constant_bits count word → old ++ constant_bits left v ≡ all → new ++ constant_bits next v ≡ all
word-kept old new all v left next count word h l split is made before =
    ap (λ (bs : List Bit). bs ++ constant_bits next v) made
    ∙ append_assoc old (constant_bits count word) (constant_bits next v)
    ∙ ap (λ (w : ℕ). old ++ (constant_bits count w ++ constant_bits next v)) is
    ∙ ap (λ (bs : List Bit). old ++ bs) (sym (constant-split v next count h l))
    ∙ ap (λ (n : ℕ). old ++ constant_bits n v) (sym split)
    ∙ before
