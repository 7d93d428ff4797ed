-- How often numbers stand in lists, and the first of some that pass a test.
use Rattle.std.proofs.Common.{◌≡◌, ◌<◌, ◌≤◌, ◌+◌, ℕ, zero, suc, Bool, true, false, ◌==◌, List, [], ◌∷◌, ◌++◌, map, Option, Some, None, refl, sym, ap, ◌∙◌, arith}
use Rattle.std.specs.Prelude.{nat_lt, option_map, if◌then◌else◌}
use Rattle.std.specs.List.{list_all}
use Rattle.std.proofs.lemmas.Bool.{true≢false, eqb-true, eq-eqb, ltb-true}
use Rattle.lp_spec_design.specs.Netlists.{first, upward}
use Rattle.lp_spec_design.specs.Reads.{one, other, both}
use Rattle.lp_spec_drivers.specs.Counts.{times, first_twice, or_else, found}

-- ---- tests of numbers

pub not-same : (a b : ℕ) → (a ≡ b → ⊥) → (a == b) ≡ false
not-same a b h = by (a == b) refl
  where
    by : (c : Bool) → (a == b) ≡ c → (a == b) ≡ false
    by true e = absurd (h (eqb-true a b e))
    by false e = e

same-shifted : (from a b : ℕ) → (from + a == from + b) ≡ (a == b)
same-shifted from a b = by (a == b) refl
  where
    by : (c : Bool) → (a == b) ≡ c → (from + a == from + b) ≡ (a == b)
    by true e = eq-eqb (from + a) (from + b) (ap (λ n. from + n) (eqb-true a b e)) ∙ sym e
    by false e = not-same (from + a) (from + b) (λ h. let is : a ≡ b = omega (arith, h) in true≢false (sym (eq-eqb a b is) ∙ e)) ∙ sym e

-- ---- how often

pub times-append : (k : ℕ) (xs ys : List ℕ) → times k (xs ++ ys) ≡ times k xs + times k ys
times-append k [] ys = omega arith
times-append k (x ∷ xs) ys = by (x == k) (times-append k xs ys)
  where
    by : (b : Bool) → times k (xs ++ ys) ≡ times k xs + times k ys → (if b then suc (times k (xs ++ ys)) else times k (xs ++ ys)) ≡ (if b then suc (times k xs) else times k xs) + times k ys
    by true more = omega (arith, more)
    by false more = more

-- moved on by a number
abbrev pub moved : ℕ → List ℕ → List ℕ
moved from xs = map (λ j. from + j) xs

pub times-moved : (from k : ℕ) (xs : List ℕ) → times (from + k) (moved from xs) ≡ times k xs
times-moved from k [] = refl
times-moved from k (x ∷ xs) =
    ap (λ b. if b then suc (times (from + k) (moved from xs)) else times (from + k) (moved from xs)) (same-shifted from x k)
    ∙ ap (λ n. if x == k then suc n else n) (times-moved from k xs)

-- none is as low
pub times-low : (from k : ℕ) (xs : List ℕ) → k < from → times k (moved from xs) ≡ 0
times-low from k [] low = refl
times-low from k (x ∷ xs) low = ap (λ b. if b then suc (times k (moved from xs)) else times k (moved from xs)) (not-same (from + x) k (λ h. absurd (omega (arith, low, h)))) ∙ times-low from k xs low

-- none is as high
pub times-high : (from size k : ℕ) (xs : List ℕ) → list_all (λ x. nat_lt x size) xs ≡ true → from + size ≤ k → times k (moved from xs) ≡ 0
times-high from size k [] within high = refl
times-high from size k (x ∷ xs) within high =
    let low = ltb-true x size (one (nat_lt x size) (list_all (λ y. nat_lt y size) xs) within) in
    ap (λ b. if b then suc (times k (moved from xs)) else times k (moved from xs)) (not-same (from + x) k (λ h. absurd (omega (arith, low, high, h))))
    ∙ times-high from size k xs (other (nat_lt x size) (list_all (λ y. nat_lt y size) xs) within) high

pub all-append : {A : Type 0} (p : A → Bool) (xs ys : List A) → list_all p xs ≡ true → list_all p ys ≡ true → list_all p (xs ++ ys) ≡ true
all-append p [] ys a b = b
all-append p (x ∷ xs) ys a b = both (p x) (list_all p (xs ++ ys)) (one (p x) (list_all p xs) a) (all-append p xs ys (other (p x) (list_all p xs) a) b)

-- ---- numbers upward

pub upward-parts : (a b from : ℕ) → upward (a + b) from ≡ upward a from ++ upward b (from + a)
upward-parts zero b from = let size : zero + b ≡ b = omega arith in let place : from ≡ from + zero = omega arith in ap (λ n. upward n from) size ∙ ap (upward b) place
upward-parts (suc a) b from =
    let size : suc a + b ≡ suc (a + b) = omega arith in
    let place : (from + 1) + a ≡ from + suc a = omega arith in
    ap (λ n. upward n from) size ∙ ap (λ r. from ∷ r) (upward-parts a b (from + 1)) ∙ ap (λ n. from ∷ (upward a (from + 1) ++ upward b n)) place

-- ---- the first that passes a test

pub first-append : {A : Type 0} (p : A → Bool) (xs ys : List A) → first p (xs ++ ys) ≡ or_else (first p xs) (first p ys)
first-append p [] ys = refl
first-append p (x ∷ xs) ys = by (p x) (first-append p xs ys)
  where
    by : (b : Bool) → first p (xs ++ ys) ≡ or_else (first p xs) (first p ys) → (if b then Some x else first p (xs ++ ys)) ≡ or_else (if b then Some x else first p xs) (first p ys)
    by true more = refl
    by false more = more

-- by a test that says the same of numbers moved on
pub first-moved : (p q : ℕ → Bool) (n from start : ℕ) → ((j : ℕ) → start ≤ j → j < start + n → p (from + j) ≡ q j) → first p (upward n (from + start)) ≡ option_map (λ j. from + j) (first q (upward n start))
first-moved p q zero from start same = refl
first-moved p q (suc n) from start same =
    let place : (from + start) + 1 ≡ from + (start + 1) = omega arith in
    ap (λ m. if p (from + start) then Some (from + start) else first p (upward n m)) place
    ∙ ap (λ b. if b then Some (from + start) else first p (upward n (from + (start + 1)))) (same start (omega arith) (omega arith))
    ∙ by (q start) (first-moved p q n from (start + 1) (λ j a b. same j (omega (arith, a)) (omega (arith, b))))
  where
    by : (b : Bool) → first p (upward n (from + (start + 1))) ≡ option_map (λ j. from + j) (first q (upward n (start + 1)))
        → (if b then Some (from + start) else first p (upward n (from + (start + 1)))) ≡ option_map (λ j. from + j) (if b then Some start else first q (upward n (start + 1)))
    by true more = refl
    by false more = more

-- by a test that says the same
pub first-same : (p q : ℕ → Bool) (n start : ℕ) → ((j : ℕ) → start ≤ j → j < start + n → p j ≡ q j) → first p (upward n start) ≡ first q (upward n start)
first-same p q zero start same = refl
first-same p q (suc n) start same =
    ap (λ b. if b then Some start else first p (upward n (start + 1))) (same start (omega arith) (omega arith))
    ∙ ap (λ r. if q start then Some start else r) (first-same p q n (start + 1) (λ j a b. same j (omega (arith, a)) (omega (arith, b))))

-- ---- answers

pub found-append : {A B : Type 0} (f : A → Option B) (xs ys : List A) → found f (xs ++ ys) ≡ or_else (found f xs) (found f ys)
found-append f [] ys = refl
found-append {B = B} f (x ∷ xs) ys = by (f x) (found-append f xs ys)
  where
    by : (o : Option B) → found f (xs ++ ys) ≡ or_else (found f xs) (found f ys) → or_else o (found f (xs ++ ys)) ≡ or_else (or_else o (found f xs)) (found f ys)
    by None more = more
    by (Some y) more = refl

pub map-else : {A B : Type 0} (f : A → B) (a b : Option A) → option_map f (or_else a b) ≡ or_else (option_map f a) (option_map f b)
map-else f None b = refl
map-else f (Some x) b = refl

-- moved on twice
pub moved-twice : (a b : ℕ) (o : Option ℕ) → option_map (λ j. a + j) (option_map (λ j. b + j) o) ≡ option_map (λ j. (a + b) + j) o
moved-twice a b None = refl
moved-twice a b (Some j) = let place : a + (b + j) ≡ (a + b) + j = omega arith in ap (λ n. Some n) place

pub moved-none : (o : Option ℕ) → option_map (λ j. 0 + j) o ≡ o
moved-none None = refl
moved-none (Some j) = let place : 0 + j ≡ j = omega arith in ap (λ n. Some n) place

-- ---- lists of parts, each of so many numbers

abbrev pub Part : Type 0
Part = ℕ × List ℕ

-- the numbers of all parts, one part behind another
abbrev pub spread : ℕ → List Part → List ℕ
spread from [] = []
spread from (x ∷ xs) = moved from x.1 ++ spread (from + x.0) xs

abbrev pub room : List Part → ℕ
room [] = 0
room (x ∷ xs) = x.0 + room xs

abbrev pub AreWithin : List Part → Type 0
AreWithin [] = Unit {0}
AreWithin (x ∷ xs) = (list_all (λ j. nat_lt j x.0) x.1 ≡ true) × AreWithin xs

abbrev pub first_in_parts : ℕ → List Part → Option ℕ
first_in_parts from [] = None
first_in_parts from (x ∷ xs) = or_else (option_map (λ j. from + j) (first_twice x.0 x.1)) (first_in_parts (from + x.0) xs)

spread-low : (from k : ℕ) (xs : List Part) → k < from → times k (spread from xs) ≡ 0
spread-low from k [] low = refl
spread-low from k (x ∷ xs) low =
    let a = times-append k (moved from x.1) (spread (from + x.0) xs) in
    let b = times-low from k x.1 low in
    let c = spread-low (from + x.0) k xs (omega (arith, low)) in
    omega (arith, a, b, c)

-- the first that stands there twice is found part by part
pub spread-first : (all : List ℕ) (from : ℕ) (xs : List Part) → AreWithin xs → ((k : ℕ) → from ≤ k → k < from + room xs → times k all ≡ times k (spread from xs))
    → first (λ k. nat_lt 1 (times k all)) (upward (room xs) from) ≡ first_in_parts from xs
spread-first all from [] within same = refl
spread-first all from (x ∷ xs) within same =
    let p : ℕ → Bool = λ k. nat_lt 1 (times k all) in
    let q : ℕ → Bool = λ j. nat_lt 1 (times j x.1) in
    let start : from ≡ from + 0 = omega arith in
    ap (first p) (upward-parts x.0 (room xs) from)
    ∙ first-append p (upward x.0 from) (upward (room xs) (from + x.0))
    ∙ ap (λ n. or_else (first p (upward x.0 n)) (first p (upward (room xs) (from + x.0)))) start
    ∙ ap (λ o. or_else o (first p (upward (room xs) (from + x.0)))) (first-moved p q x.0 from 0 (λ j a b. ap (λ n. nat_lt 1 n) (here j b)))
    ∙ ap (or_else (option_map (λ j. from + j) (first_twice x.0 x.1))) (spread-first all (from + x.0) xs within.1 (λ k a b. later k a b))
  where
    here : (j : ℕ) → j < 0 + x.0 → times (from + j) all ≡ times j x.1
    here j b =
        let low : j < x.0 = omega (arith, b) in
        let r = same (from + j) (omega arith) (omega (arith, low)) in
        let u = times-append (from + j) (moved from x.1) (spread (from + x.0) xs) in
        let v = times-moved from j x.1 in
        let w = spread-low (from + x.0) (from + j) xs (omega (arith, low)) in
        omega (arith, r, u, v, w)

    later : (k : ℕ) → from + x.0 ≤ k → k < (from + x.0) + room xs → times k all ≡ times k (spread (from + x.0) xs)
    later k a b =
        let r = same k (omega (arith, a)) (omega (arith, b)) in
        let u = times-append k (moved from x.1) (spread (from + x.0) xs) in
        let v = times-high from x.0 k x.1 within.0 a in
        omega (arith, r, u, v)
