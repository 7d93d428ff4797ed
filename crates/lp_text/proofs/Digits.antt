-- The value of decimal digits as a loop reads them, and the bound on what a text is worth.
use Rattle.std.proofs.Common.{◌≡◌, ℕ, ◌+◌, ◌-◌, ◌*◌, ◌^◌, ◌<◌, ◌≤◌, zero, suc, Bool, not, ◌==◌, true, false, ◌&&◌, cond, List, [], ◌∷◌, ◌++◌, length, take, drop, get_or, replicate, leb, refl, ap, ◌∙◌, arith, add-one, length-append}
use Rattle.std.proofs.Math.Nat.{pow-suc}
use Rattle.std.proofs.lemmas.List.{take_more, get_or-replicate}
use Rattle.std.proofs.lemmas.Bool.{leb-true}
use Rattle.std.specs.Prelude.{Option, Some, None}
use Rattle.std.specs.Char.{is_ascii_digit}
use Rattle.std.specs.List.{list_all, position}
use Rattle.lp_text.specs.Micros.{is_digits, decimal, millionths, is_number, micros_between, micros_at, micros_of}

-- one more digit at the end
pub decimal-push : (cs : List ℕ) (c : ℕ) → decimal (cs ++ c ∷ []) ≡ decimal cs * 10 + (c - 48)
decimal-push [] c = omega arith
decimal-push (x ∷ xs) c =
    let ih = decimal-push xs c in
    let len : length (xs ++ c ∷ []) ≡ length xs + 1 = length-append xs (c ∷ []) in
    rw (ih, len, add-one, pow-suc) (grind arith)

-- one more digit of a text
pub decimal-more : (cs : List ℕ) (i : ℕ) → i < length cs → decimal (take (i + 1) cs) ≡ decimal (take i cs) * 10 + (get_or cs i 0 - 48)
decimal-more cs i h = ap decimal (take_more cs i 0 h) ∙ decimal-push (take i cs) (get_or cs i 0)

both : (a b : Bool) → (a && b) ≡ true → (a ≡ true) × (b ≡ true)
both true b h = (refl, h)
both false b h = cc

digit_range : (c : ℕ) → is_ascii_digit c ≡ true → (48 ≤ c) × (c ≤ 57)
digit_range c h = let r = both (leb 48 c) (leb c 57) h in (leb-true 48 c r.0, leb-true c 57 r.1)

digit_in : (cs : List ℕ) (i : ℕ) → list_all is_ascii_digit cs ≡ true → (48 ≤ get_or cs i 48) × (get_or cs i 48 ≤ 57)
digit_in [] i h = (omega arith, omega arith)
digit_in (x ∷ xs) zero h = digit_range x (both _ _ h).0
digit_in (x ∷ xs) (suc i) h = digit_in xs i (both _ _ h).1

-- what is read of digits, with a zero (48) past their end
pub digit_at : (cs : List ℕ) (i : ℕ) → is_digits cs ≡ true → (48 ≤ get_or cs i 48) × (get_or cs i 48 ≤ 57)
digit_at cs i h = digit_in cs i (both (not (length cs == 0)) (list_all is_ascii_digit cs) h).1

-- six zeros
zero_at : (i : ℕ) → i < 6 → get_or {A = ℕ} (replicate 6 48) i 0 ≡ 48
zero_at i h = get_or-replicate 6 i 48 0 h

padded : (cs : List ℕ) (i : ℕ) → i < 6 → get_or (cs ++ replicate 6 48) i 0 ≡ get_or cs i 48
padded [] i h = zero_at i h
padded (x ∷ xs) zero h = refl
padded (x ∷ xs) (suc i) h = padded xs i (omega arith)

-- what is read of decimals that zeros follow
pub padded_at : (cs : List ℕ) (i : ℕ) → i < 6 → (i < length (cs ++ replicate 6 48)) × (get_or (cs ++ replicate 6 48) i 0 ≡ get_or cs i 48)
padded_at cs i h =
    let len : length (cs ++ replicate 6 48) ≡ length cs + 6 = length-append cs (replicate 6 48) in
    (omega arith, padded cs i h)

most_by : (b : Bool) (n v : ℕ) → (b ≡ true → n ≤ 10 ^ 12) → cond b (Some n) None ≡ Some v → v ≤ 10 ^ 12
most_by true n v h e = let s : n ≡ v = cc in let l : n ≤ 10 ^ 12 = h refl in omega arith
most_by false n v h e = cc

most_between : (whole decimals : List ℕ) (v : ℕ) → micros_between whole decimals ≡ Some v → v ≤ 10 ^ 12
most_between whole decimals v e =
    most_by (is_number whole decimals) (millionths whole decimals) v
    (λ t. leb-true (millionths whole decimals) (10 ^ 12) (both (is_digits whole && is_digits decimals) (leb (millionths whole decimals) (10 ^ 12)) t).1) e

most_at : (text : List ℕ) (at : Option ℕ) (v : ℕ) → micros_at text at ≡ Some v → v ≤ 10 ^ 12
most_at text None v e = most_between text (48 ∷ []) v e
most_at text (Some at) v e = most_between (take at text) (drop (at + 1) text) v e

-- no text is worth more than a million whole units
pub micros_of-most : (text : List ℕ) (v : ℕ) → micros_of text ≡ Some v → v ≤ 10 ^ 12
micros_of-most text v e = most_at text (position (λ c. c == 46) text) v e
