-- First places as numbers are added.
use Rattle.std.proofs.Common.{◌≡◌, ℕ, zero, suc, ◌<◌, ◌==◌, Bool, true, false, List, [], ◌∷◌, ◌++◌, length, Option, Some, None, refl, sym, ap, ◌∙◌}
use Rattle.std.specs.Prelude.{if◌then◌else◌, is_some, slice_get, slice_index_or, slice_set}
use Rattle.std.specs.Option.{option_map}
use Rattle.std.proofs.lemmas.Bool.{true≢false, eqb-true, eq-eqb}
use Rattle.std.proofs.lemmas.List.{get_or-set_other}
use Rattle.std.proofs.lemmas.Grind.{get_or-set_at}
use Rattle.lp_places.specs.Places.{place_of_number}
use Rattle.lp_templates.specs.Indexes.{IsIndex}

-- the number at its place
pub number_at : (n : ℕ) (numbers : List ℕ) (k : ℕ) → place_of_number n numbers ≡ Some k → slice_get numbers k ≡ Some n
number_at n [] k e = cc
number_at n (m ∷ numbers) k e = by (n == m) refl (place_of_number n numbers) refl (number_at n numbers)
  where
    by : (b : Bool) → (n == m) ≡ b → (r : Option ℕ) → place_of_number n numbers ≡ r → ((j : ℕ) → place_of_number n numbers ≡ Some j → slice_get numbers j ≡ Some n) → slice_get (m ∷ numbers) k ≡ Some n
    by true s r p more =
        let here : Some 0 ≡ Some k = rw s at e in
        let zero_is : 0 ≡ k = cc in
        ap (slice_get (m ∷ numbers)) (sym zero_is) ∙ ap (λ z. Some z) (sym (eqb-true n m s))
    by false s None p more = let there : option_map suc (place_of_number n numbers) ≡ Some k = rw s at e in let none : option_map suc None ≡ Some k = rw p at there in cc
    by false s (Some j) p more =
        let there : option_map suc (place_of_number n numbers) ≡ Some k = rw s at e in
        let some : option_map suc (Some j) ≡ Some k = rw p at there in
        let suc_is : suc j ≡ k = cc in
        ap (slice_get (m ∷ numbers)) (sym suc_is) ∙ more j p

-- a number that stands has a place
pub has_place : (n : ℕ) (numbers : List ℕ) (k : ℕ) → slice_get numbers k ≡ Some n → place_of_number n numbers ≡ None → ⊥
has_place n [] k e none = cc
has_place n (m ∷ numbers) k e none = by (n == m) refl (place_of_number n numbers) refl (has_place n numbers) k e
  where
    by : (b : Bool) → (n == m) ≡ b → (r : Option ℕ) → place_of_number n numbers ≡ r → ((j : ℕ) → slice_get numbers j ≡ Some n → place_of_number n numbers ≡ None → ⊥) → (k : ℕ) → slice_get (m ∷ numbers) k ≡ Some n → ⊥
    by true s r p more k e = let there : Some 0 ≡ None = rw s at none in cc
    by false s None p more zero e = let same : m ≡ n = cc in true≢false (sym (eq-eqb n m (sym same)) ∙ s)
    by false s None p more (suc j) e = more j e p
    by false s (Some j) p more k e = let there : option_map suc (place_of_number n numbers) ≡ None = rw s at none in let some : option_map suc (Some j) ≡ None = rw p at there in cc

module _ (firsts numbers : List ℕ) (index : IsIndex firsts numbers) (n place : ℕ) (noted : place ≡ slice_index_or firsts n 0) where
  -- what is noted is right where the number stands there
  pub found_here : slice_get numbers place ≡ Some n → place_of_number n numbers ≡ Some place
  found_here at = by (place_of_number n numbers) refl
    where
      by : (r : Option ℕ) → place_of_number n numbers ≡ r → r ≡ Some place
      by None p = absurd (has_place n numbers place at p)
      by (Some k) p = let same : k ≡ place = sym (index n k p) ∙ sym noted in ap (λ j. Some j) same

  -- else there is none
  pub found_other : (o : Option ℕ) → slice_get numbers place ≡ o → (o ≡ Some n → ⊥) → place_of_number n numbers ≡ None
  found_other o at other = by (place_of_number n numbers) refl
    where
      by : (r : Option ℕ) → place_of_number n numbers ≡ r → r ≡ None
      by None p = refl
      by (Some k) p =
          let same : k ≡ place = sym (index n k p) ∙ sym noted in
          absurd (other (sym at ∙ ap (slice_get numbers) (sym same) ∙ number_at n numbers k p))

-- ---- one more

or_behind : Option ℕ → Bool → ℕ → Option ℕ
or_behind (Some k) b last = Some k
or_behind None b last = if b then Some last else None

place-push : (n m : ℕ) (numbers : List ℕ) → place_of_number n (numbers ++ m ∷ []) ≡ or_behind (place_of_number n numbers) (n == m) (length numbers)
unfolding or_behind
place-push n m [] = refl
place-push n m (k ∷ numbers) = by (n == k) (place_of_number n numbers) (n == m) (place-push n m numbers)
  where
    by : (here : Bool) (r : Option ℕ) (b : Bool) → place_of_number n (numbers ++ m ∷ []) ≡ or_behind r b (length numbers)
        → (if here then Some 0 else option_map suc (place_of_number n (numbers ++ m ∷ []))) ≡ or_behind (if here then Some 0 else option_map suc r) b (length (k ∷ numbers))
    by true r b e = refl
    by false (Some j) b e = ap (option_map suc) e
    by false None true e = ap (option_map suc) e
    by false None false e = ap (option_map suc) e

module _ (firsts numbers : List ℕ) (m : ℕ) (index : IsIndex firsts numbers) where
  -- a number that is there keeps its place
  pub known_added : (j : ℕ) → place_of_number m numbers ≡ Some j → IsIndex firsts (numbers ++ m ∷ [])
  unfolding or_behind
  known_added j known n k e = by (place_of_number n numbers) refl (n == m) refl
    where
      by : (r : Option ℕ) → place_of_number n numbers ≡ r → (b : Bool) → (n == m) ≡ b → slice_index_or firsts n 0 ≡ k
      by (Some i) p b s = let same : Some i ≡ Some k = sym ((λ t. or_behind (p t) (n == m) (length numbers))) ∙ sym (place-push n m numbers) ∙ e in let is : i ≡ k = cc in index n i p ∙ is
      by None p true s = let none : Some j ≡ None = sym known ∙ ap (λ z. place_of_number z numbers) (sym (eqb-true n m s)) ∙ p in cc
      by None p false s = let none : None ≡ Some k = sym ((λ t. or_behind (p t) (s t) (length numbers))) ∙ sym (place-push n m numbers) ∙ e in cc

  -- another one has the last place
  pub new_added : m < length firsts → place_of_number m numbers ≡ None → IsIndex (slice_set firsts m (length numbers)) (numbers ++ m ∷ [])
  unfolding or_behind
  new_added room new n k e = by (place_of_number n numbers) refl (n == m) refl
    where
      by : (r : Option ℕ) → place_of_number n numbers ≡ r → (b : Bool) → (n == m) ≡ b → slice_index_or (slice_set firsts m (length numbers)) n 0 ≡ k
      by (Some i) p true s = let none : None ≡ Some i = sym new ∙ ap (λ z. place_of_number z numbers) (sym (eqb-true n m s)) ∙ p in cc
      by (Some i) p false s =
          let same : Some i ≡ Some k = sym ((λ t. or_behind (p t) (n == m) (length numbers))) ∙ sym (place-push n m numbers) ∙ e in
          let is : i ≡ k = cc in
          get_or-set_other firsts m n (length numbers) 0 (λ z. true≢false (sym (eq-eqb n m z) ∙ s)) ∙ index n i p ∙ is
      by None p true s =
          let same : Some (length numbers) ≡ Some k = sym ((λ t. or_behind (p t) (s t) (length numbers))) ∙ sym (place-push n m numbers) ∙ e in
          let is : length numbers ≡ k = cc in
          get_or-set_at firsts m n (length numbers) 0 (eqb-true n m s) room ∙ is
      by None p false s = let none : None ≡ Some k = sym ((λ t. or_behind (p t) (s t) (length numbers))) ∙ sym (place-push n m numbers) ∙ e in cc

-- another list that says the same
pub index_same : (old firsts numbers : List ℕ) → IsIndex old numbers → ((n : ℕ) → slice_index_or firsts n 0 ≡ slice_index_or old n 0) → IsIndex firsts numbers
index_same old firsts numbers index same n k p = same n ∙ index n k p

pub no_index : (firsts : List ℕ) → IsIndex firsts []
no_index firsts n k p = cc

-- ---- whether there is one

pub none_of : (r : Option ℕ) → is_some r ≡ false → r ≡ None
none_of None e = refl
none_of (Some k) e = absurd (true≢false e)

pub some_of_is : (r : Option ℕ) → is_some r ≡ true → (k : ℕ) × (r ≡ Some k)
some_of_is None e = absurd (true≢false (sym e))
some_of_is (Some k) e = (k, refl)
