-- Numbers of names below a bound in parts of lists, and distinct names by their numbers.
use Rattle.std.proofs.Common.{◌≡◌, ℕ, ◌<◌, Bool, true, false, not, ◌&&◌, ◌||◌, cond, List, [], ◌∷◌, ◌++◌, length, Option, Some, None, refl, ◌∙◌}
use Rattle.std.specs.Prelude.{map, ltb, is_none}
use Rattle.std.specs.List.{flat_map}
use Rattle.std.specs.Option.{option_map}
use Rattle.std.proofs.lemmas.List.Folds.{list_all-append}
use Rattle.lp_text.specs.Texts.{text_at, distinct, has_text}
use Rattle.lp_model.specs.Agreement.{numbers_below}
use Rattle.lp_plain_index.specs.Places.{has_number}
use Rattle.lp_plain_index.proofs.Numbers.{below-left, below-right, below-head, below-tail, same_name}
use Rattle.lp_plain_fits.specs.Numbered.{are_distinct}

pub none_same : {A B : Type 0} (f : A → B) (o : Option A) → is_none (option_map f o) ≡ is_none o
none_same f None = refl
none_same f (Some x) = refl

pub map_if : {A B : Type 0} (f : A → B) (b : Bool) (xs : List A) → cond b (map f xs) [] ≡ map f (cond b xs [])
map_if f true xs = refl
map_if f false xs = refl

pub some_if : {A B : Type 0} (f : A → B) (b : Bool) (x : A) (r : Option A) → cond b (Some (f x)) (option_map f r) ≡ option_map f (cond b (Some x) r)
some_if f true x r = refl
some_if f false x r = refl

pub below-append : (n : ℕ) (xs ys : List ℕ) → numbers_below n xs ≡ true → numbers_below n ys ≡ true → numbers_below n (xs ++ ys) ≡ true
below-append n xs ys a b = list_all-append (λ k. ltb k n) xs ys ∙ (λ i. a i && b i)

-- one number of each item
pub below-each : {A : Type 0} (n : ℕ) (f : A → ℕ) (numbers : A → List ℕ) → ((x : A) → numbers_below n (numbers x) ≡ true → numbers_below n (f x ∷ []) ≡ true) → (xs : List A) → numbers_below n (flat_map numbers xs) ≡ true → numbers_below n (map f xs) ≡ true
below-each n f numbers each [] below = refl
below-each n f numbers each (x ∷ xs) below =
    below-append n (f x ∷ []) (map f xs) (each x (below-left n (numbers x) (flat_map numbers xs) below)) (below-each n f numbers each xs (below-right n (numbers x) (flat_map numbers xs) below))

-- the first number of some
pub below-first : (n k : ℕ) (ks : List ℕ) → numbers_below n (k ∷ ks) ≡ true → numbers_below n (k ∷ []) ≡ true
below-first n k ks below = below-left n (k ∷ []) ks below

module _ (texts : List (List ℕ)) (apart : distinct texts ≡ true) where
  pub has_same : (n : ℕ) (ns : List ℕ) → n < length texts → numbers_below (length texts) ns ≡ true → has_text (text_at texts n) (map (text_at texts) ns) ≡ has_number n ns
  has_same n [] l below = refl
  has_same n (m ∷ ns) l below = λ i. same_name texts apart n m l (below-head (length texts) m ns below) i || has_same n ns l (below-tail (length texts) m ns below) i

  pub distinct_same : (ns : List ℕ) → numbers_below (length texts) ns ≡ true → distinct (map (text_at texts) ns) ≡ are_distinct ns
  distinct_same [] below = refl
  distinct_same (n ∷ ns) below =
      let behind = below-tail (length texts) n ns below in
      λ i. not (has_same n ns (below-head (length texts) n ns below) behind i) && distinct_same ns behind i
