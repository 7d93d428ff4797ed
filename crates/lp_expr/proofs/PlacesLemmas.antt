-- Places of a table that have known digits, and what the values there say.
use Rattle.std.proofs.Common.{◌≡◌, ℕ, ◌+◌, ◌*◌, ◌-◌, ◌/◌, ◌%◌, ◌^◌, ◌<◌, ◌≤◌, Bool, true, false, not, cond, eq-eqb, get_or, length, drop, List, [], ◌∷◌, refl, sym, ap, ◌∙◌, subst, arith}
use Rattle.std.specs.Prelude.{map, bit_and}
use Rattle.std.proofs.Math.Nat.{mod-eq_of_lt}
use Rattle.std.proofs.Math.Pow.{pow_mono}
use Rattle.std.proofs.lemmas.Bool.{ne_eqb}
use Rattle.std.proofs.lemmas.List.{length-map, length-drop, drop_more, drop_all}
use Rattle.std.proofs.lemmas.Nat.{and_block, and_le_r, and_mask, same_from_place}
use Rattle.lp_tern.specs.declared.tern.Tern.{Tern}
use Rattle.lp_tern.specs.declared.tern.Tern.TheVariants.{Zero, One, X}
use Rattle.lp_expr.specs.Formula.{Formula, truth, digits, value_of}
use Rattle.lp_expr.specs.Places.{digit_of, place_of, is_known, is_one, value_at, IsPlace, AllAt, SomeAt}
use Rattle.lp_expr.specs.Replaces.{Replaces}
use Rattle.lp_expr.proofs.Digits.{digits-place_of, place_of-lt, digit-lt}
use Rattle.lp_expr.proofs.Replacements.{Replaces-is_one, length-Replaces, always_one, always_zero, differing}

-- the number of the digits from a place of the list on
place_from-more : {A : Type 0} (f : A → Bool) (xs : List A) (i : ℕ) (d : A) → i < length xs → place_of (map f (drop i xs)) ≡ place_of (map f (drop (i + 1) xs)) * 2 + digit_of (f (get_or xs i d))
place_from-more f xs i d h = ap (λ ys. place_of (map f ys)) (drop_more xs i d h)

place_from-small : {A : Type 0} (f : A → Bool) (xs : List A) (i : ℕ) → length xs ≤ 12 → place_of (map f (drop i xs)) < 4096
place_from-small f xs i few =
    let within : length (map f (drop i xs)) ≤ 12 = omega (arith, length-map (drop i xs) f, length-drop i xs) in
    let bound : 2 ^ length (map f (drop i xs)) ≤ 2 ^ 12 = pow_mono within in
    omega (arith, place_of-lt (map f (drop i xs)), bound)

place_from-none : {A : Type 0} (f : A → Bool) (xs : List A) (i : ℕ) → length xs ≤ i → place_of (map f (drop i xs)) ≡ 0
place_from-none f xs i h = ap (λ ys. place_of (map f ys)) (drop_all i xs h)

-- what a number that is made from the last digit on has become
pub record IsPlaceFrom {A : Type 0} (f : A → Bool) (xs : List A) (i place : ℕ) : Type 0 where
  pub value : place ≡ place_of (map f (drop i xs))
  pub small : place < 4096

pub IsPlaceFrom-none : {A : Type 0} (f : A → Bool) (xs : List A) (i : ℕ) → length xs ≤ i → IsPlaceFrom f xs i 0
IsPlaceFrom-none f xs i h = record { value = sym (place_from-none f xs i h); small = omega arith }

pub IsPlaceFrom-more : {A : Type 0} (f : A → Bool) (xs : List A) (i : ℕ) (d : A) (place new : ℕ) → 0 < i → i ≤ length xs → length xs ≤ 12
    → IsPlaceFrom f xs i place → new ≡ place * 2 + digit_of (f (get_or xs (i - 1) d)) → IsPlaceFrom f xs (i - 1) new
IsPlaceFrom-more f xs i d place new above within few before e =
    let next : i ≡ (i - 1) + 1 = omega arith in
    let rest : place ≡ place_of (map f (drop ((i - 1) + 1) xs)) = before.value ∙ ap (λ j. place_of (map f (drop j xs))) next in
    let value : new ≡ place_of (map f (drop (i - 1) xs)) = e ∙ ap (λ n. n * 2 + digit_of (f (get_or xs (i - 1) d))) rest ∙ sym (place_from-more f xs (i - 1) d (omega arith)) in
    record { value = value; small = subst (λ n. n < 4096) (sym value) (place_from-small f xs (i - 1) few) }

-- one digit more under a mask
and-digit : (k mask k_digit mask_digit : ℕ) → k_digit < 2 → mask_digit < 2 → bit_and (k * 2 + k_digit) (mask * 2 + mask_digit) ≡ bit_and k mask * 2 + bit_and k_digit mask_digit
and-digit k mask k_digit mask_digit h j = and_block 1 k mask k_digit mask_digit h j

and-parts : (k mask ones mask_digit ones_digit : ℕ) → mask_digit < 2 → ones_digit < 2 → bit_and k (mask * 2 + mask_digit) ≡ ones * 2 + ones_digit
    → (bit_and (k / 2) mask ≡ ones) × (bit_and (k % 2) mask_digit ≡ ones_digit)
and-parts k mask ones mask_digit ones_digit h j e =
    let whole : k / 2 * 2 + k % 2 ≡ k = omega arith in
    let split : bit_and (k / 2) mask * 2 + bit_and (k % 2) mask_digit ≡ ones * 2 + ones_digit =
    sym (and-digit (k / 2) mask (k % 2) mask_digit (omega arith) h) ∙ ap (λ n. bit_and n (mask * 2 + mask_digit)) whole ∙ e
    in
    same_from_place (bit_and (k / 2) mask) (bit_and (k % 2) mask_digit) ones ones_digit 2 (omega (arith, and_le_r (k % 2) mask_digit)) j split

and-one : (k : ℕ) → bit_and (k % 2) 1 ≡ k % 2
and-one k = let e : bit_and (k % 2) 1 ≡ k % 2 % 2 = and_mask (k % 2) 1 in omega (arith, e)

-- a place with the digits that are known replaces the values
pub Replaces-digits : (v : List Tern) (k : ℕ) → bit_and k (place_of (map is_known v)) ≡ place_of (map is_one v) → Replaces v (digits (length v) k)
Replaces-digits [] k e = tt
Replaces-digits (Zero ∷ v) k e =
    let parts = and-parts k (place_of (map is_known v)) (place_of (map is_one v)) 1 0 (omega arith) (omega arith) e in
    (ne_eqb (k % 2) 1 (λ h. let f : bit_and (k % 2) 1 ≡ 0 = parts.1 in omega (arith, and-one k, f)), Replaces-digits v (k / 2) parts.0)
Replaces-digits (One ∷ v) k e =
    let parts = and-parts k (place_of (map is_known v)) (place_of (map is_one v)) 1 1 (omega arith) (omega arith) e in
    (eq-eqb (k % 2) 1 (sym (and-one k) ∙ parts.1), Replaces-digits v (k / 2) parts.0)
Replaces-digits (X ∷ v) k e =
    let parts = and-parts k (place_of (map is_known v)) (place_of (map is_one v)) 0 0 (omega arith) (omega arith) e in
    (tt, Replaces-digits v (k / 2) parts.0)

one-more : (c : List Bool) (v : List Tern) (b known one : Bool) → bit_and (digit_of b) (digit_of known) ≡ digit_of one
    → bit_and (place_of c) (place_of (map is_known v)) ≡ place_of (map is_one v)
    → bit_and (place_of c * 2 + digit_of b) (place_of (map is_known v) * 2 + digit_of known) ≡ place_of (map is_one v) * 2 + digit_of one
one-more c v b known one here rest =
    and-digit (place_of c) (place_of (map is_known v)) (digit_of b) (digit_of known) (digit-lt b) (digit-lt known)
    ∙ ap (λ n. n * 2 + bit_and (digit_of b) (digit_of known)) rest
    ∙ ap (λ n. place_of (map is_one v) * 2 + n) here

-- a replacement has the digits that are known
pub place_of-Replaces : (v : List Tern) (c : List Bool) → Replaces v c → bit_and (place_of c) (place_of (map is_known v)) ≡ place_of (map is_one v)
place_of-Replaces [] [] r = refl
place_of-Replaces [] (b ∷ c) r = absurd r
place_of-Replaces (t ∷ v) [] r = absurd r
place_of-Replaces (Zero ∷ v) (b ∷ c) r = one-more c v b true false (ap (λ x. bit_and (digit_of x) 1) r.0) (place_of-Replaces v c r.1)
place_of-Replaces (One ∷ v) (b ∷ c) r = one-more c v b true true (ap (λ x. bit_and (digit_of x) 1) r.0) (place_of-Replaces v c r.1)
place_of-Replaces (X ∷ v) (true ∷ c) r = one-more c v true false false refl (place_of-Replaces v c r.1)
place_of-Replaces (X ∷ v) (false ∷ c) r = one-more c v false false false refl (place_of-Replaces v c r.1)

-- where each digit is known, there is one place
pub AllAt-known : (e : Formula) (mask ones : ℕ) (b : Bool) → mask ≡ 2 ^ length e.variables - 1 → value_at e ones ≡ b → AllAt e mask ones b
AllAt-known e mask ones b full first place p =
    let kept : bit_and place (2 ^ length e.variables - 1) ≡ place % 2 ^ length e.variables = and_mask place (length e.variables) in
    let whole : place % 2 ^ length e.variables ≡ place = mod-eq_of_lt p.inside in
    let at : place ≡ ones = sym whole ∙ sym kept ∙ sym (ap (bit_and place) full) ∙ p.agrees in
    ap (value_at e) at ∙ first

module _ (e : Formula) (v : List Tern) (mask ones : ℕ) (same_length : length v ≡ length e.variables) (mask_is : mask ≡ place_of (map is_known v)) (ones_is : ones ≡ place_of (map is_one v)) where
  -- replacements are places
  place-Replaces : (c : List Bool) → Replaces v c → IsPlace e mask ones (place_of c)
  place-Replaces c r = record {
    inside = subst (λ n. place_of c < 2 ^ n) (length-Replaces v c r ∙ same_length) (place_of-lt c);
    agrees = ap (bit_and (place_of c)) mask_is ∙ place_of-Replaces v c r ∙ sym ones_is;
  }

  value-Replaces : (c : List Bool) → Replaces v c → value_at e (place_of c) ≡ truth e.steps c
  value-Replaces c r = ap (λ n. truth e.steps (digits n (place_of c))) (sym (length-Replaces v c r ∙ same_length)) ∙ ap (truth e.steps) (digits-place_of c)

  Replaces-place : (place : ℕ) → IsPlace e mask ones place → Replaces v (digits (length e.variables) place)
  Replaces-place place p = subst (λ n. Replaces v (digits n place)) same_length (Replaces-digits v place (sym (ap (bit_and place) mask_is) ∙ p.agrees ∙ ones_is))

  -- the place with 0 for each unknown value
  pub place-first : IsPlace e mask ones ones
  place-first = subst (λ place. IsPlace e mask ones place) (sym ones_is) (place-Replaces (map is_one v) (Replaces-is_one v))

  pub value-all : (b : Bool) → AllAt e mask ones b → value_of e v ≡ cond b One Zero
  value-all true all = (always_one e v).1 (λ c r. sym (value-Replaces c r) ∙ all (place_of c) (place-Replaces c r))
  value-all false all = (always_zero e v).1 (λ c r. sym (value-Replaces c r) ∙ all (place_of c) (place-Replaces c r))

  pub value-some : (b : Bool) → value_at e ones ≡ b → SomeAt e mask ones (not b) → value_of e v ≡ X
  value-some true first some =
      differing e v (digits (length e.variables) ones) (digits (length e.variables) some.place) (Replaces-place ones place-first) (Replaces-place some.place some.is_place) first some.value
  value-some false first some =
      differing e v (digits (length e.variables) some.place) (digits (length e.variables) ones) (Replaces-place some.place some.is_place) (Replaces-place ones place-first) some.value first
