-- The first place of a list that passes a test, place by place.
use Rattle.std.proofs.Common.{◌≡◌, ℕ, ◌+◌, suc, zero, Bool, true, false, cond, List, [], ◌∷◌, Option, Some, None, refl, sym, ap, ◌∙◌, ◌-◌, arith, take, drop, length, length-drop, get_or, filter}
use Rattle.std.specs.Prelude.{if◌then◌else◌}
use Rattle.std.specs.List.{list_any, position, position_from}
use Rattle.std.specs.Option.{option_map}
use Rattle.std.proofs.lemmas.Iterator.Adapters.{position_from-zero}
use Rattle.lp_spec_pins.specs.Pins.{only}

abbrev pub slot : {K : Type 0} → (K → Bool) → List K → Option ℕ
slot p [] = None
slot p (x ∷ xs) = if p x then Some 0 else option_map suc (slot p xs)

module _ {K : Type 0} (p : K → Bool) where
  from-slot : (xs : List K) (start : ℕ) → position_from p start xs ≡ option_map (λ n. start + n) (slot p xs)
  from-slot [] start = refl
  from-slot (x ∷ xs) start = by (p x) (slot p xs) (from-slot xs (start + 1))
    where
      by : (b : Bool) (r : Option ℕ) → position_from p (start + 1) xs ≡ option_map (λ n. start + 1 + n) r → cond b (Some start) (position_from p (start + 1) xs) ≡ option_map (λ n. start + n) (cond b (Some 0) (option_map suc r))
      by true r e = let same : start ≡ start + 0 = omega arith in ap (λ n. Some n) same
      by false None e = e
      by false (Some k) e = let same : start + 1 + k ≡ start + suc k = omega arith in e ∙ ap (λ n. Some n) same

  pub position-slot : (xs : List K) → position p xs ≡ slot p xs
  position-slot xs = position_from-zero p xs ∙ from-slot xs 0 ∙ from_zero (slot p xs)
    where
      from_zero : (r : Option ℕ) → option_map (λ n. 0 + n) r ≡ r
      from_zero None = refl
      from_zero (Some k) = let same : 0 + k ≡ k = omega arith in ap (λ n. Some n) same

  -- ---- the one that passes

  none-passes : (xs : List K) → list_any p xs ≡ false → filter p xs ≡ []
  none-passes [] e = refl
  none-passes (x ∷ xs) e = by (p x) refl (none-passes xs)
    where
      by : (b : Bool) → p x ≡ b → (list_any p xs ≡ false → filter p xs ≡ []) → filter p (x ∷ xs) ≡ []
      by true f more = let gone : true ≡ false = rw f at e in absurd cc
      by false f more = let rest : list_any p xs ≡ false = rw f at e in rw f (more rest)

  pub first-passes : (xs : List K) (k : ℕ) (y : K) → slot p xs ≡ Some k → y ≡ get_or xs k y → filter p xs ≡ y ∷ filter p (drop (suc k) xs)
  first-passes [] k y e there = let gone : None ≡ Some k = e in absurd cc
  first-passes (x ∷ xs) k y e there = by (p x) refl (slot p xs) refl k e there (λ m. first-passes xs m y)
    where
      by : (b : Bool) → p x ≡ b → (r : Option ℕ) → slot p xs ≡ r → (m : ℕ) → slot p (x ∷ xs) ≡ Some m → y ≡ get_or (x ∷ xs) m y
          → ((n : ℕ) → slot p xs ≡ Some n → y ≡ get_or xs n y → filter p xs ≡ y ∷ filter p (drop (suc n) xs)) → filter p (x ∷ xs) ≡ y ∷ filter p (drop (suc m) (x ∷ xs))
      by true f r s zero h at more = rw f (ap (λ z. z ∷ filter p xs) (sym at))
      by true f r s (suc m) h at more = let gone : Some 0 ≡ Some (suc m) = rw f at h in absurd cc
      by false f None s m h at more = let gone : None ≡ Some m = rw (f, s) at h in absurd cc
      by false f (Some n) s zero h at more = let gone : Some (suc n) ≡ Some 0 = rw (f, s) at h in absurd cc
      by false f (Some n) s (suc m) h at more =
          let is : Some (suc n) ≡ Some (suc m) = rw (f, s) at h in
          let same : n ≡ m = cc in
          rw f (more m (s ∙ ap (λ k. Some k) same) at)

  pub no-slot : (xs : List K) → slot p xs ≡ None → filter p xs ≡ []
  no-slot [] e = refl
  no-slot (x ∷ xs) e = by (p x) refl (slot p xs) refl (no-slot xs)
    where
      by : (b : Bool) → p x ≡ b → (r : Option ℕ) → slot p xs ≡ r → (slot p xs ≡ None → filter p xs ≡ []) → filter p (x ∷ xs) ≡ []
      by true f r s more = let gone : Some zero ≡ None = rw f at e in absurd cc
      by false f None s more = rw f (more s)
      by false f (Some k) s more = let gone : Some (suc k) ≡ None = rw (f, s) at e in absurd cc

  only-none : (xs : List K) (x : K) → list_any p xs ≡ true → only (x ∷ filter p xs) ≡ None
  only-none [] x e = let gone : false ≡ true = e in absurd cc
  only-none (y ∷ xs) x e = by (p y) refl (only-none xs x)
    where
      by : (b : Bool) → p y ≡ b → (list_any p xs ≡ true → only (x ∷ filter p xs) ≡ None) → only (x ∷ filter p (y ∷ xs)) ≡ None
      by true f more = rw f refl
      by false f more = let rest : list_any p xs ≡ true = rw f at e in rw f (more rest)

  take-all : (ys : List K) (n : ℕ) → length ys ≡ n → take n ys ≡ ys
  take-all [] zero e = refl
  take-all [] (suc n) e = refl
  take-all (y ∷ ys) zero e = absurd (omega (arith, e))
  take-all (y ∷ ys) (suc n) e = ap (λ zs. y ∷ zs) (take-all ys n (omega (arith, e)))

  behind-all : (xs : List K) (k : ℕ) → take (length xs - (k + 1)) (drop (k + 1) xs) ≡ drop (suc k) xs
  behind-all xs k = let on : k + 1 ≡ suc k = omega arith in take-all (drop (k + 1) xs) (length xs - (k + 1)) (length-drop (k + 1) xs) ∙ ap (λ n. drop n xs) on

  module _ (xs : List K) (k : ℕ) (here : position p xs ≡ Some k) where
    -- another one passes behind the first
    pub two-pass : (y : K) → y ≡ get_or xs k y → list_any p (take (length xs - (k + 1)) (drop (k + 1) xs)) ≡ true → only (filter p xs) ≡ None
    two-pass y there e =
        ap only (first-passes xs k y (sym (position-slot xs) ∙ here) there)
        ∙ only-none (drop (suc k) xs) y (ap (list_any p) (sym (behind-all xs k)) ∙ e)

    -- none passes behind it
    pub one-passes : (y : K) → y ≡ get_or xs k y → list_any p (take (length xs - (k + 1)) (drop (k + 1) xs)) ≡ false → only (filter p xs) ≡ Some y
    one-passes y there e =
        ap only (first-passes xs k y (sym (position-slot xs) ∙ here) there
        ∙ ap (λ ys. y ∷ ys) (none-passes (drop (suc k) xs) (ap (list_any p) (sym (behind-all xs k)) ∙ e)))
