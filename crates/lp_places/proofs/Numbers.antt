-- Numbers of names in place of their texts.
use Rattle.std.proofs.Common.{◌≡◌, ℕ, suc, ◌<◌, ◌==◌, Bool, true, false, ◌||◌, List, [], ◌∷◌, ◌++◌, length, Option, Some, None, refl, sym, ap, ◌∙◌, arith}
use Rattle.std.specs.Prelude.{map, ltb, is_some, bytes_eq, if◌then◌else◌}
use Rattle.std.specs.Option.{option_map}
use Rattle.std.proofs.lemmas.Bool.{eqb-true, eq-eqb, ltb-true, and_parts}
use Rattle.std.proofs.lemmas.Bool.Decides.{same_from_decides}
use Rattle.std.proofs.lemmas.List.Folds.{list_all-append}
use Rattle.std.proofs.lemmas.Slice.Eq.{bytes_eq-Decides}
use Rattle.lp_text.specs.Texts.{text_at, distinct, place_of, place_of-distinct}
use Rattle.lp_places.specs.Places.{place_of_number, has_number, are_below}

-- ---- numbers below a bound

pub below-left : (n : ℕ) (xs ys : List ℕ) → are_below n (xs ++ ys) ≡ true → are_below n xs ≡ true
below-left n xs ys e = (and_parts (are_below n xs) (are_below n ys) (sym (list_all-append (λ k. ltb k n) xs ys) ∙ e)).0

pub below-right : (n : ℕ) (xs ys : List ℕ) → are_below n (xs ++ ys) ≡ true → are_below n ys ≡ true
below-right n xs ys e = (and_parts (are_below n xs) (are_below n ys) (sym (list_all-append (λ k. ltb k n) xs ys) ∙ e)).1

pub below-head : (n k : ℕ) (xs : List ℕ) → are_below n (k ∷ xs) ≡ true → k < n
below-head n k xs e = ltb-true k n (and_parts (ltb k n) (are_below n xs) e).0

pub below-tail : (n k : ℕ) (xs : List ℕ) → are_below n (k ∷ xs) ≡ true → are_below n xs ≡ true
below-tail n k xs e = (and_parts (ltb k n) (are_below n xs) e).1

-- ---- numbers of a table

module _ (texts : List (List ℕ)) (apart : distinct texts ≡ true) where
  injective : (a b : ℕ) → a < length texts → b < length texts → text_at texts a ≡ text_at texts b → a ≡ b
  injective a b l m e =
      let same : Some a ≡ Some b = sym (place_of-distinct texts a apart l) ∙ ap (λ t. place_of t texts) e ∙ place_of-distinct texts b apart m in
      cc

  -- two names have one text exactly where they have one number
  pub same_name : (a b : ℕ) → a < length texts → b < length texts → bytes_eq (text_at texts a) (text_at texts b) ≡ (a == b)
  same_name a b l m =
      same_from_decides (bytes_eq (text_at texts a) (text_at texts b)) (a == b) (bytes_eq-Decides (text_at texts a) (text_at texts b))
      ((λ e. ap (text_at texts) (eqb-true a b e)), (λ t. eq-eqb a b (injective a b l m t)))

  -- the place of a text is that of its number
  pub place_of_text : (n : ℕ) (numbers : List ℕ) → n < length texts → are_below (length texts) numbers ≡ true → place_of (text_at texts n) (map (text_at texts) numbers) ≡ place_of_number n numbers
  place_of_text n [] l below = refl
  place_of_text n (m ∷ numbers) l below =
      let here = same_name n m l (below-head (length texts) m numbers below) in
      let behind = place_of_text n numbers l (below-tail (length texts) m numbers below) in
      λ i. if here i then Some 0 else option_map suc (behind i)

option_map-suc : (r : Option ℕ) (place : ℕ) → option_map suc r ≡ Some place → (k : ℕ) × (r ≡ Some k) × (suc k ≡ place)
option_map-suc None place e = cc
option_map-suc (Some k) place e = let suc_is : suc k ≡ place = cc in (k, refl, suc_is)

option_map-None : (r : Option ℕ) → option_map suc r ≡ None → r ≡ None
option_map-None None e = refl
option_map-None (Some k) e = cc

-- a found place is one of the list
pub place-below : (n : ℕ) (numbers : List ℕ) (k : ℕ) → place_of_number n numbers ≡ Some k → k < length numbers
place-below n [] k e = cc
place-below n (m ∷ numbers) k e = by (n == m) refl (place-below n numbers)
  where
    by : (b : Bool) → (n == m) ≡ b → ((j : ℕ) → place_of_number n numbers ≡ Some j → j < length numbers) → k < length (m ∷ numbers)
    by true s found = let here : Some 0 ≡ Some k = rw s at e in let zero_is : 0 ≡ k = cc in omega arith
    by false s found =
        let there : option_map suc (place_of_number n numbers) ≡ Some k = rw s at e in
        let behind = option_map-suc (place_of_number n numbers) k there in
        omega (arith, found behind.0 behind.1, behind.2)

-- a number has a place exactly where it is one of the list
pub is_some-place : (n : ℕ) (numbers : List ℕ) → is_some (place_of_number n numbers) ≡ has_number n numbers
is_some-place n [] = refl
is_some-place n (m ∷ numbers) = by (n == m) (place_of_number n numbers) (is_some-place n numbers)
  where
    by : (b : Bool) (r : Option ℕ) → is_some r ≡ has_number n numbers → is_some (if b then Some 0 else option_map suc r) ≡ (b || has_number n numbers)
    by true r e = refl
    by false None e = e
    by false (Some k) e = e
