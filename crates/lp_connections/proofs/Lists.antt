-- The first of lists one behind another, of mapped lists, and by numbers.
use Rattle.std.proofs.Common.{◌≡◌, ℕ, ◌+◌, Bool, true, false, cond, List, [], ◌∷◌, ◌++◌, map, Option, Some, None, refl, ap, ◌∙◌, add-one}
use Rattle.std.specs.Prelude.{slice_get}
use Rattle.std.specs.List.{flat_map}
use Rattle.std.specs.Option.{option_map}
use Rattle.lp_spec_design.specs.Netlists.{first}
use Rattle.lp_targets.specs.Reports.{or_else}
use Rattle.lp_connections.specs.Numbered.{found_at}

pub first-append : {A : Type 0} (p : A → Bool) (xs ys : List A) → first p (xs ++ ys) ≡ or_else (first p xs) (first p ys)
first-append p [] ys = refl
first-append p (x ∷ xs) ys = ap (cond (p x) (Some x)) (first-append p xs ys) ∙ by (p x)
  where
    by : (b : Bool) → cond b (Some x) (or_else (first p xs) (first p ys)) ≡ or_else (cond b (Some x) (first p xs)) (first p ys)
    by true = refl
    by false = refl

pub map_else : {A B : Type 0} (f : A → B) (a b : Option A) → option_map f (or_else a b) ≡ or_else (option_map f a) (option_map f b)
map_else f None b = refl
map_else f (Some x) b = refl

pub else_none : {A : Type 0} (a : Option A) → or_else a None ≡ a
else_none None = refl
else_none (Some x) = refl

pub map_map_some : {A B C : Type 0} (g : B → C) (f : A → B) (a : Option A) → option_map g (option_map f a) ≡ option_map (λ x. g (f x)) a
map_map_some g f None = refl
map_map_some g f (Some x) = refl

pub flat_map-map : {A B C : Type 0} (g : B → List C) (f : A → B) (xs : List A) → flat_map g (map f xs) ≡ flat_map (λ x. g (f x)) xs
flat_map-map g f [] = refl
flat_map-map g f (x ∷ xs) = ap (λ r. g (f x) ++ r) (flat_map-map g f xs)

-- the first of a mapped list, said
pub first-map : {A B R : Type 0} (p : B → Bool) (say : B → R) (f : A → B) (xs : List A) → option_map say (first p (map f xs)) ≡ option_map (λ x. say (f x)) (first (λ x. p (f x)) xs)
first-map p say f [] = refl
first-map p say f (x ∷ xs) = by (p (f x)) (first-map p say f xs)
  where
    by : (b : Bool) → option_map say (first p (map f xs)) ≡ option_map (λ y. say (f y)) (first (λ y. p (f y)) xs) → option_map say (cond b (Some (f x)) (first p (map f xs))) ≡ option_map (λ y. say (f y)) (cond b (Some x) (first (λ y. p (f y)) xs))
    by true e = refl
    by false e = e

-- one more, said of both sides
pub some_if_said : {A B R : Type 0} (f : A → R) (g : B → R) (b : Bool) (x : A) (y : B) (r : Option A) (t : Option B) → f x ≡ g y → option_map f r ≡ option_map g t → option_map f (cond b (Some x) r) ≡ option_map g (cond b (Some y) t)
some_if_said f g true x y r t e rest = ap Some e
some_if_said f g false x y r t e rest = rest

-- the first of a list, where its first one is taken apart
pub first-head : {A R : Type 0} (p : A → Bool) (say : A → R) (x : A) (xs : List A) → option_map say (first p (x ∷ xs)) ≡ or_else (option_map say (cond (p x) (Some x) None)) (option_map say (first p xs))
first-head {A = A} p say x xs = by (p x)
  where
    by : (b : Bool) → option_map say (cond b (Some x) (first p xs)) ≡ or_else (option_map say (cond b (Some x) None)) (option_map say (first p xs))
    by true = refl
    by false = refl

-- no place passes
pub first-never : {A : Type 0} (p : A → Bool) (xs : List A) → ((x : A) → p x ≡ false) → first p xs ≡ None
first-never p [] none = refl
first-never p (x ∷ xs) none = ap (λ b. cond b (Some x) (first p xs)) (none x) ∙ first-never p xs none

-- numbers from one on
pub found-shift : {A B : Type 0} (f : ℕ → A → Option B) (k : ℕ) (xs : List A) → found_at f (k + 1) xs ≡ found_at (λ j x. f (j + 1) x) k xs
found-shift f k [] = refl
found-shift f k (x ∷ xs) = ap (or_else (f (k + 1) x)) (found-shift f (k + 1) xs)

pub found-same : {A B : Type 0} (f g : ℕ → A → Option B) → ((k : ℕ) (x : A) → f k x ≡ g k x) → (k : ℕ) (xs : List A) → found_at f k xs ≡ found_at g k xs
found-same f g e k xs = λ i. found_at (λ j x. e j x i) k xs

pub get-next : {A : Type 0} (x : A) (xs : List A) (j : ℕ) → slice_get (x ∷ xs) (j + 1) ≡ slice_get xs j
get-next x xs j = ap (slice_get (x ∷ xs)) (add-one j)
