-- Entries of lists, and lists that stand in others from a place on.
use Rattle.std.proofs.Common.{◌≡◌, ◌+◌, ℕ, zero, suc, Bool, true, false, List, [], ◌∷◌, ◌++◌, map, length, take, Some, inl, inr, refl, sym, ap, ◌∙◌, arith}
use Rattle.std.specs.Prelude.{filter, flat_map, slice_get, if◌then◌else◌}
use Rattle.std.proofs.lemmas.List.{length-append, append_assoc}
use Rattle.lp_spec_design.specs.Winners.{IsIn}

pub get-left : {A : Type 0} (xs ys : List A) (j : ℕ) (x : A) → slice_get xs j ≡ Some x → slice_get (xs ++ ys) j ≡ Some x
get-left [] ys j x h = absurd cc
get-left (z ∷ xs) ys zero x h = h
get-left (z ∷ xs) ys (suc j) x h = get-left xs ys j x h

pub get-right : {A : Type 0} (xs ys : List A) (j : ℕ) → slice_get (xs ++ ys) (length xs + j) ≡ slice_get ys j
get-right [] ys j = let place : 0 + j ≡ j = omega arith in ap (slice_get ys) place
get-right (z ∷ xs) ys j = let place : suc (length xs) + j ≡ suc (length xs + j) = omega arith in ap (slice_get (z ∷ (xs ++ ys))) place ∙ get-right xs ys j

pub get-map : {A B : Type 0} (f : A → B) (xs : List A) (k : ℕ) (x : A) → slice_get xs k ≡ Some x → slice_get (map f xs) k ≡ Some (f x)
get-map f [] k x h = absurd cc
get-map f (z ∷ xs) zero x h = let is : z ≡ x = cc in ap (λ w. Some (f w)) is
get-map f (z ∷ xs) (suc k) x h = get-map f xs k x h

pub get-in : {A : Type 0} (xs : List A) (k : ℕ) (x : A) → slice_get xs k ≡ Some x → IsIn x xs
get-in [] k x h = absurd cc
get-in (z ∷ xs) zero x h = let is : x ≡ z = cc in inl is
get-in (z ∷ xs) (suc k) x h = inr (get-in xs k x h)

-- a list stands in another from a place on
abbrev pub Has : {A : Type 0} → List A → ℕ → List A → Type 0
Has {A = A} all k xs = (j : ℕ) (x : A) → slice_get xs j ≡ Some x → slice_get all (k + j) ≡ Some x

pub has-all : {A : Type 0} (xs : List A) → Has xs 0 xs
has-all xs j x h = let place : 0 + j ≡ j = omega arith in ap (slice_get xs) place ∙ h

pub has-head : {A : Type 0} (all : List A) (k : ℕ) (x : A) (xs : List A) → Has all k (x ∷ xs) → slice_get all k ≡ Some x
has-head all k x xs h = let place : k ≡ k + 0 = omega arith in ap (slice_get all) place ∙ h 0 x refl

pub has-tail : {A : Type 0} (all : List A) (k : ℕ) (x : A) (xs : List A) → Has all k (x ∷ xs) → Has all (k + 1) xs
has-tail all k x xs h j y g = let place : (k + 1) + j ≡ k + suc j = omega arith in ap (slice_get all) place ∙ h (suc j) y g

pub has-left : {A : Type 0} (all : List A) (k : ℕ) (xs ys : List A) → Has all k (xs ++ ys) → Has all k xs
has-left all k xs ys h j x g = h j x (get-left xs ys j x g)

pub has-right : {A : Type 0} (all : List A) (k : ℕ) (xs ys : List A) → Has all k (xs ++ ys) → Has all (k + length xs) ys
has-right all k xs ys h j x g =
    let place : (k + length xs) + j ≡ k + (length xs + j) = omega arith in
    ap (slice_get all) place ∙ h (length xs + j) x (get-right xs ys j ∙ g)

-- an entry of one of the lists that a list is made of
pub flat-entry : {A B : Type 0} (f : A → List B) (xs : List A) (k : ℕ) (x : A) (j : ℕ) (y : B) → slice_get xs k ≡ Some x → slice_get (f x) j ≡ Some y → slice_get (flat_map f xs) (length (flat_map f (take k xs)) + j) ≡ Some y
flat-entry f [] k x j y h g = absurd cc
flat-entry f (z ∷ xs) zero x j y h g =
    let is : z ≡ x = cc in
    let place : 0 + j ≡ j = omega arith in
    ap (slice_get (f z ++ flat_map f xs)) place ∙ get-left (f z) (flat_map f xs) j y (ap (λ w. slice_get (f w) j) is ∙ g)
flat-entry f (z ∷ xs) (suc k) x j y h g =
    let size = length-append (f z) (flat_map f (take k xs)) in
    let place : length (f z ++ flat_map f (take k xs)) + j ≡ length (f z) + (length (flat_map f (take k xs)) + j) = omega (arith, size) in
    ap (slice_get (f z ++ flat_map f xs)) place ∙ get-right (f z) (flat_map f xs) (length (flat_map f (take k xs)) + j) ∙ flat-entry f xs k x j y h g

-- ---- lists that are made of lists

pub flat-append : {A B : Type 0} (f : A → List B) (xs ys : List A) → flat_map f (xs ++ ys) ≡ flat_map f xs ++ flat_map f ys
flat-append f [] ys = refl
flat-append f (x ∷ xs) ys = ap (λ r. f x ++ r) (flat-append f xs ys) ∙ sym (append_assoc (f x) (flat_map f xs) (flat_map f ys))

pub flat-map : {A B C : Type 0} (f : B → List C) (g : A → B) (xs : List A) → flat_map f (map g xs) ≡ flat_map (λ x. f (g x)) xs
flat-map f g [] = refl
flat-map f g (x ∷ xs) = ap (λ r. f (g x) ++ r) (flat-map f g xs)

pub flat-flat : {A B C : Type 0} (f : B → List C) (g : A → List B) (xs : List A) → flat_map f (flat_map g xs) ≡ flat_map (λ x. flat_map f (g x)) xs
flat-flat f g [] = refl
flat-flat f g (x ∷ xs) = flat-append f (g x) (flat_map g xs) ∙ ap (λ r. flat_map f (g x) ++ r) (flat-flat f g xs)

pub flat-equal : {A B : Type 0} (f g : A → List B) (xs : List A) → ((x : A) → f x ≡ g x) → flat_map f xs ≡ flat_map g xs
flat-equal f g [] h = refl
flat-equal f g (x ∷ xs) h = ap (λ r. r ++ flat_map f xs) (h x) ∙ ap (λ r. g x ++ r) (flat-equal f g xs h)

pub filter-append : {A : Type 0} (p : A → Bool) (xs ys : List A) → filter p (xs ++ ys) ≡ filter p xs ++ filter p ys
filter-append p [] ys = refl
filter-append p (x ∷ xs) ys = by (p x) (filter-append p xs ys)
  where
    by : (b : Bool) → filter p (xs ++ ys) ≡ filter p xs ++ filter p ys → (if b then x ∷ filter p (xs ++ ys) else filter p (xs ++ ys)) ≡ (if b then x ∷ filter p xs else filter p xs) ++ filter p ys
    by true more = ap (λ r. x ∷ r) more
    by false more = more

pub filter-map : {A B : Type 0} (p : B → Bool) (g : A → B) (xs : List A) → filter p (map g xs) ≡ map g (filter (λ x. p (g x)) xs)
filter-map p g [] = refl
filter-map p g (x ∷ xs) = by (p (g x)) (filter-map p g xs)
  where
    by : (b : Bool) → filter p (map g xs) ≡ map g (filter (λ y. p (g y)) xs) → (if b then g x ∷ filter p (map g xs) else filter p (map g xs)) ≡ map g (if b then x ∷ filter (λ y. p (g y)) xs else filter (λ y. p (g y)) xs)
    by true more = ap (λ r. g x ∷ r) more
    by false more = more
