-- Entries of lists.
use Rattle.std.proofs.Common.{◌≡◌, ◌<◌, ◌≤◌, ◌+◌, ℕ, zero, suc, Bool, true, false, ◌||◌, List, [], ◌∷◌, map, length, take, drop, get_or, Some, None, inl, inr, refl, sym, ap, ◌∙◌, subst, arith}
use Rattle.std.specs.Prelude.{filter, slice_get, if◌then◌else◌}
use Rattle.std.specs.List.{list_all, list_any}
use Rattle.std.proofs.lemmas.Bool.{false≢true}
use Rattle.lp_spec_design.specs.Graph.{numbered}
use Rattle.lp_spec_design.specs.Reads.{one, other, both}
use Rattle.lp_spec_design.specs.Winners.{IsIn}
use Rattle.lp_spec_design.proofs.Members.{in-map}
use Rattle.lp_spec_bridge.specs.Keyed.{IsApart}
use Rattle.lp_spec_layout.proofs.Lists.{get-in}

pub past : {A : Type 0} (xs : List A) (k : ℕ) (d : A) → length xs ≤ k → get_or xs k d ≡ d
past [] k d h = refl
past (x ∷ xs) zero d h = absurd (omega (arith, h))
past (x ∷ xs) (suc k) d h = past xs k d (omega (arith, h))

pub none-past : {A : Type 0} (xs : List A) (k : ℕ) → slice_get xs k ≡ None → length xs ≤ k
none-past [] k e = omega arith
none-past (x ∷ xs) zero e = absurd cc
none-past (x ∷ xs) (suc k) e = let rest = none-past xs k e in omega (arith, rest)

pub none-at : {A B : Type 0} (f : A → B) (xs : List A) (k : ℕ) (d : B) → slice_get xs k ≡ None → get_or (map f xs) k d ≡ d
none-at f [] k d e = refl
none-at f (x ∷ xs) zero d e = absurd cc
none-at f (x ∷ xs) (suc k) d e = none-at f xs k d e

pub got : {A : Type 0} (xs : List A) (k : ℕ) → k < length xs → (x : A) × (slice_get xs k ≡ Some x)
got [] k h = absurd (omega (arith, h))
got (x ∷ xs) zero h = (x, refl)
got (x ∷ xs) (suc k) h = got xs k (omega (arith, h))

-- members that a function tells apart
pub apart-same : {A B : Type 0} (f : A → B) (xs : List A) (x y : A) → IsApart (map f xs) → IsIn x xs → IsIn y xs → f x ≡ f y → x ≡ y
apart-same f [] x y apart h g e = absurd h
apart-same f (z ∷ xs) x y apart (inl is) (inl same) e = is ∙ sym same
apart-same f (z ∷ xs) x y apart (inl is) (inr g) e = absurd (apart.0 (subst (λ w. IsIn w (map f xs)) (sym e ∙ ap f is) (in-map f y xs g)))
apart-same f (z ∷ xs) x y apart (inr h) (inl same) e = absurd (apart.0 (subst (λ w. IsIn w (map f xs)) (e ∙ ap f same) (in-map f x xs h)))
apart-same f (z ∷ xs) x y apart (inr h) (inr g) e = apart-same f xs x y apart.1 h g e

-- and their places
pub apart-places : {A : Type 0} (xs : List A) (j k : ℕ) (x : A) → IsApart xs → slice_get xs j ≡ Some x → slice_get xs k ≡ Some x → j ≡ k
apart-places [] j k x apart h g = absurd cc
apart-places (y ∷ xs) zero zero x apart h g = refl
apart-places (y ∷ xs) zero (suc k) x apart h g = let is : y ≡ x = cc in absurd (apart.0 (subst (λ w. IsIn w xs) (sym is) (get-in xs k x g)))
apart-places (y ∷ xs) (suc j) zero x apart h g = let is : y ≡ x = cc in absurd (apart.0 (subst (λ w. IsIn w xs) (sym is) (get-in xs j x h)))
apart-places (y ∷ xs) (suc j) (suc k) x apart h g = ap suc (apart-places xs j k x apart.1 h g)

pub in-filter : {A : Type 0} (test : A → Bool) (xs : List A) (x : A) → IsIn x xs → test x ≡ true → IsIn x (filter test xs)
in-filter test [] x h e = absurd h
in-filter test (y ∷ xs) x h e = by (test y) refl (λ r. in-filter test xs x r e)
  where
    by : (b : Bool) → test y ≡ b → (IsIn x xs → IsIn x (filter test xs)) → IsIn x (if b then y ∷ filter test xs else filter test xs)
    by true f more = elim h [ inl is ↦ inl is | inr r ↦ inr (more r) ]
    by false f more = elim h [ inl is ↦ absurd (false≢true (sym f ∙ (ap test (sym is) ∙ e))) | inr r ↦ more r ]

-- ---- tests of all members

pub all-or : {A : Type 0} (p : A → Bool) (xs : List A) (k : ℕ) (d : A) → p d ≡ true → list_all p xs ≡ true → p (get_or xs k d) ≡ true
all-or p [] k d e h = e
all-or p (x ∷ xs) zero d e h = one (p x) (list_all p xs) h
all-or p (x ∷ xs) (suc k) d e h = all-or p xs k d e (other (p x) (list_all p xs) h)

pub all-entry : {A : Type 0} (p : A → Bool) (xs : List A) (k : ℕ) (x : A) → list_all p xs ≡ true → slice_get xs k ≡ Some x → p x ≡ true
all-entry p [] k x h e = absurd cc
all-entry p (y ∷ xs) zero x h e = let is : y ≡ x = cc in subst (λ z. p z ≡ true) is (one (p y) (list_all p xs) h)
all-entry p (y ∷ xs) (suc k) x h e = all-entry p xs k x (other (p y) (list_all p xs) h) e

pub all-drop : {A : Type 0} (p : A → Bool) (n : ℕ) (xs : List A) → list_all p xs ≡ true → list_all p (drop n xs) ≡ true
all-drop p zero xs h = h
all-drop p (suc n) [] h = refl
all-drop p (suc n) (x ∷ xs) h = all-drop p n xs (other (p x) (list_all p xs) h)

pub all-take : {A : Type 0} (p : A → Bool) (n : ℕ) (xs : List A) → list_all p xs ≡ true → list_all p (take n xs) ≡ true
all-take p zero xs h = refl
all-take p (suc n) [] h = refl
all-take p (suc n) (x ∷ xs) h = both (p x) (list_all p (take n xs)) (one (p x) (list_all p xs) h) (all-take p n xs (other (p x) (list_all p xs) h))

-- each with its number
pub all-numbered : {A : Type 0} (p : ℕ × A → Bool) (start : ℕ) (xs : List A) (k : ℕ) (x : A) → list_all p (numbered start xs) ≡ true → slice_get xs k ≡ Some x → p (start + k, x) ≡ true
all-numbered p start [] k x h e = absurd cc
all-numbered p start (y ∷ xs) zero x h e =
    let is : y ≡ x = cc in
    let place : start ≡ start + 0 = omega arith in
    subst (λ z. p (start + 0, z) ≡ true) is (subst (λ n. p (n, y) ≡ true) place (one (p (start, y)) (list_all p (numbered (start + 1) xs)) h))
all-numbered p start (y ∷ xs) (suc k) x h e =
    let place : (start + 1) + k ≡ start + suc k = omega arith in
    subst (λ n. p (n, x) ≡ true) place (all-numbered p (start + 1) xs k x (other (p (start, y)) (list_all p (numbered (start + 1) xs)) h) e)

-- no member passes
pub none-any : {A : Type 0} (p : A → Bool) (xs : List A) (x : A) → list_any p xs ≡ false → IsIn x xs → p x ≡ false
none-any p [] x e h = absurd h
none-any p (y ∷ xs) x e h = by (p y) refl e h (none-any p xs x)
  where
    by : (b : Bool) → p y ≡ b → (b || list_any p xs) ≡ false → IsIn x (y ∷ xs) → (list_any p xs ≡ false → IsIn x xs → p x ≡ false) → p x ≡ false
    by true f g h more = absurd (false≢true (sym g))
    by false f g (inl is) more = ap p is ∙ f
    by false f g (inr r) more = more g r
