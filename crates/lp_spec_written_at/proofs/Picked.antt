-- What is picked from filtered lists by its place.
use Rattle.std.proofs.Common.{◌≡◌, ◌≤◌, ℕ, zero, suc, Bool, true, false, ◌&&◌, cond, List, [], ◌∷◌, ◌++◌, length, map, take, Some, inl, inr, refl, sym, ap, ◌∙◌, arith}
use Rattle.std.specs.Prelude.{slice_get, filter, flat_map, if◌then◌else◌}
use Rattle.std.proofs.lemmas.Bool.{false≢true}
use Rattle.lp_spec_design.specs.Graph.{pairs}
use Rattle.lp_spec_design.specs.Winners.{IsIn}

-- the place of one that is kept among all that are kept: so many before it are kept too
pub pick : {A : Type 0} (t : A → Bool) (xs : List A) (k : ℕ) (x : A) → slice_get xs k ≡ Some x → t x ≡ true → slice_get (filter t xs) (length (filter t (take k xs))) ≡ Some x
pick t [] k x e h = absurd cc
pick t (y ∷ xs) zero x e h =
    let is : y ≡ x = cc in
    ap (λ b. slice_get (cond b (y ∷ filter t xs) (filter t xs)) 0) (ap t is ∙ h) ∙ ap (λ z. Some z) is
pick t (y ∷ xs) (suc k) x e h = by (t y) (pick t xs k x e h)
  where
    by : (b : Bool) → slice_get (filter t xs) (length (filter t (take k xs))) ≡ Some x → slice_get (cond b (y ∷ filter t xs) (filter t xs)) (length (cond b (y ∷ filter t (take k xs)) (filter t (take k xs)))) ≡ Some x
    by true g = g
    by false g = g

-- what stands at a place of a list that is made of another is made of what stands there
pub of-map-get : {A B : Type 0} (f : A → B) (xs : List A) (k : ℕ) (b : B) → slice_get (map f xs) k ≡ Some b → (a : A) × (slice_get xs k ≡ Some a) × (f a ≡ b)
of-map-get f [] k b e = absurd cc
of-map-get f (x ∷ xs) zero b e = let is : f x ≡ b = cc in (x, refl, is)
of-map-get f (x ∷ xs) (suc k) b e = of-map-get f xs k b e

pub map-filter : {A B : Type 0} (f : A → B) (t : B → Bool) (xs : List A) → map f (filter (λ x. t (f x)) xs) ≡ filter t (map f xs)
map-filter f t [] = refl
map-filter f t (x ∷ xs) = by (t (f x)) (map-filter f t xs)
  where
    by : (b : Bool) → map f (filter (λ y. t (f y)) xs) ≡ filter t (map f xs) → map f (cond b (x ∷ filter (λ y. t (f y)) xs) (filter (λ y. t (f y)) xs)) ≡ cond b (f x ∷ filter t (map f xs)) (filter t (map f xs))
    by true g = ap (λ r. f x ∷ r) g
    by false g = g

pub map-append : {A B : Type 0} (f : A → B) (xs ys : List A) → map f (xs ++ ys) ≡ map f xs ++ map f ys
map-append f [] ys = refl
map-append f (x ∷ xs) ys = ap (λ r. f x ∷ r) (map-append f xs ys)

pub map-flat : {A B C : Type 0} (f : B → C) (g : A → List B) (xs : List A) → map f (flat_map g xs) ≡ flat_map (λ x. map f (g x)) xs
map-flat f g [] = refl
map-flat f g (x ∷ xs) = map-append f (g x) (flat_map g xs) ∙ ap (λ r. map f (g x) ++ r) (map-flat f g xs)

pub flat-same : {A B : Type 0} (f g : A → List B) (xs : List A) → ((x : A) → IsIn x xs → f x ≡ g x) → flat_map f xs ≡ flat_map g xs
flat-same f g [] same = refl
flat-same f g (x ∷ xs) same = ap (λ r. r ++ flat_map f xs) (same x (inl refl)) ∙ ap (λ r. g x ++ r) (flat-same f g xs (λ y h. same y (inr h)))

pub flat-none : {A B : Type 0} (f : A → List B) (xs : List A) → ((x : A) → IsIn x xs → f x ≡ []) → flat_map f xs ≡ []
flat-none f [] none = refl
flat-none f (x ∷ xs) none = ap (λ r. r ++ flat_map f xs) (none x (inl refl)) ∙ flat-none f xs (λ y h. none y (inr h))

pub filter-append : {A : Type 0} (t : A → Bool) (xs ys : List A) → filter t (xs ++ ys) ≡ filter t xs ++ filter t ys
filter-append t [] ys = refl
filter-append t (x ∷ xs) ys = by (t x) (filter-append t xs ys)
  where
    by : (b : Bool) → filter t (xs ++ ys) ≡ filter t xs ++ filter t ys → cond b (x ∷ filter t (xs ++ ys)) (filter t (xs ++ ys)) ≡ cond b (x ∷ filter t xs) (filter t xs) ++ filter t ys
    by true g = ap (λ r. x ∷ r) g
    by false g = g

pub filter-flat : {A B : Type 0} (t : B → Bool) (f : A → List B) (xs : List A) → filter t (flat_map f xs) ≡ flat_map (λ x. filter t (f x)) xs
filter-flat t f [] = refl
filter-flat t f (x ∷ xs) = filter-append t (f x) (flat_map f xs) ∙ ap (λ r. filter t (f x) ++ r) (filter-flat t f xs)

append-append : {A : Type 0} (xs ys zs : List A) → (xs ++ ys) ++ zs ≡ xs ++ (ys ++ zs)
append-append [] ys zs = refl
append-append (x ∷ xs) ys zs = ap (λ r. x ∷ r) (append-append xs ys zs)

pub flat-append : {A B : Type 0} (f : A → List B) (xs ys : List A) → flat_map f (xs ++ ys) ≡ flat_map f xs ++ flat_map f ys
flat-append f [] ys = refl
flat-append f (x ∷ xs) ys = ap (λ r. f x ++ r) (flat-append f xs ys) ∙ sym (append-append (f x) (flat_map f xs) (flat_map f ys))

pub filter-same : {A : Type 0} (t u : A → Bool) (xs : List A) → ((x : A) → IsIn x xs → t x ≡ u x) → filter t xs ≡ filter u xs
filter-same t u [] same = refl
filter-same t u (x ∷ xs) same = ap (λ b. cond b (x ∷ filter t xs) (filter t xs)) (same x (inl refl)) ∙ ap (λ r. cond (u x) (x ∷ r) r) (filter-same t u xs (λ y h. same y (inr h)))

pub filter-none : {A : Type 0} (t : A → Bool) (xs : List A) → ((x : A) → IsIn x xs → t x ≡ false) → filter t xs ≡ []
filter-none t [] none = refl
filter-none t (x ∷ xs) none = ap (λ b. cond b (x ∷ filter t xs) (filter t xs)) (none x (inl refl)) ∙ filter-none t xs (λ y h. none y (inr h))

pub filter-both : {A : Type 0} (t u : A → Bool) (xs : List A) → filter t (filter u xs) ≡ filter (λ x. t x && u x) xs
filter-both t u [] = refl
filter-both t u (x ∷ xs) = by (u x) (t x) (filter-both t u xs) refl
  where
    by : (b c : Bool) → filter t (filter u xs) ≡ filter (λ y. t y && u y) xs → t x ≡ c → filter t (cond b (x ∷ filter u xs) (filter u xs)) ≡ cond (c && b) (x ∷ filter (λ y. t y && u y) xs) (filter (λ y. t y && u y) xs)
    by true true g e = ap (λ d. cond d (x ∷ filter t (filter u xs)) (filter t (filter u xs))) e ∙ ap (λ r. x ∷ r) g
    by true false g e = ap (λ d. cond d (x ∷ filter t (filter u xs)) (filter t (filter u xs))) e ∙ g
    by false true g e = g
    by false false g e = g

-- ---- pairs

pub pairs-first : {A B : Type 0} (xs : List A) (ys : List B) → length xs ≤ length ys → map (λ z. z.0) (pairs xs ys) ≡ xs
pairs-first [] ys h = refl
pairs-first (x ∷ xs) [] h = absurd (omega (arith, h))
pairs-first (x ∷ xs) (y ∷ ys) h = ap (λ r. x ∷ r) (pairs-first xs ys (omega (arith, h)))

pub pairs-second : {A B : Type 0} (xs : List A) (ys : List B) → length ys ≤ length xs → map (λ z. z.1) (pairs xs ys) ≡ ys
pairs-second [] [] h = refl
pairs-second [] (y ∷ ys) h = absurd (omega (arith, h))
pairs-second (x ∷ xs) [] h = refl
pairs-second (x ∷ xs) (y ∷ ys) h = ap (λ r. y ∷ r) (pairs-second xs ys (omega (arith, h)))

pub pairs-length : {A B : Type 0} (n : ℕ) (xs : List A) (ys : List B) → n ≤ length xs → n ≤ length ys → n ≤ length (pairs xs ys)
pairs-length zero xs ys h g = omega arith
pairs-length (suc n) [] ys h g = absurd (omega (arith, h))
pairs-length (suc n) (x ∷ xs) [] h g = absurd (omega (arith, g))
pairs-length (suc n) (x ∷ xs) (y ∷ ys) h g = let rest = pairs-length n xs ys (omega (arith, h)) (omega (arith, g)) in omega (arith, rest)

-- ---- lists that stand at one member alone

none-but : {A B : Type 0} (t : A → Bool) (r : List B) (xs : List A) → length (filter t xs) ≤ 0 → flat_map (λ x. if t x then r else []) xs ≡ []
none-but t r [] h = refl
none-but t r (x ∷ xs) h = by (t x) h (none-but t r xs)
  where
    by : (b : Bool) → length (cond b (x ∷ filter t xs) (filter t xs)) ≤ 0 → (length (filter t xs) ≤ 0 → flat_map (λ y. if t y then r else []) xs ≡ []) → (if b then r else []) ++ flat_map (λ y. if t y then r else []) xs ≡ []
    by true g more = absurd (omega (arith, g))
    by false g more = more g

pub none-more : {A : Type 0} (xs : List A) → xs ++ [] ≡ xs
none-more [] = refl
none-more (x ∷ xs) = ap (λ r. x ∷ r) (none-more xs)

-- at most one member has a list
pub one-has : {A B : Type 0} (t : A → Bool) (r : List B) (a : A) (xs : List A) → IsIn a xs → t a ≡ true → length (filter t xs) ≤ 1 → flat_map (λ x. if t x then r else []) xs ≡ r
one-has t r a [] h e few = absurd h
one-has t r a (x ∷ xs) h e few = by (t x) refl few h (λ g. one-has t r a xs g e)
  where
    by : (b : Bool) → t x ≡ b → length (cond b (x ∷ filter t xs) (filter t xs)) ≤ 1 → IsIn a (x ∷ xs) → (IsIn a xs → length (filter t xs) ≤ 1 → flat_map (λ y. if t y then r else []) xs ≡ r) → (if b then r else []) ++ flat_map (λ y. if t y then r else []) xs ≡ r
    by true is g at more = ap (λ q. r ++ q) (none-but t r xs (omega (arith, g))) ∙ none-more r
    by false is g (inl here) more = absurd (false≢true (sym is ∙ (ap t (sym here) ∙ e)))
    by false is g (inr there) more = more there g
