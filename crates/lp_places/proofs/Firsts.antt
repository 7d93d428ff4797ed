-- First places as numbers are added.
use Rattle.std.proofs.Common.{◌≡◌, ℕ, suc, ◌+◌, ◌<◌, ◌≢◌, ◌==◌, Bool, true, false, List, [], ◌∷◌, ◌++◌, length, Option, Some, None, refl, sym, ap, ◌∙◌, arith, length-append}
use Rattle.std.specs.Prelude.{if◌then◌else◌, slice_index_or, slice_set}
use Rattle.std.specs.Option.{option_map}
use Rattle.std.proofs.lemmas.Bool.{true≢false, eqb-true, eq-eqb}
use Rattle.std.proofs.lemmas.List.{get_or-set_other}
use Rattle.std.proofs.lemmas.Grind.{get_or-set_at}
use Rattle.lp_places.specs.Places.{place_of_number, place_code, IsPlaces, marked}
use Rattle.lp_places.proofs.Numbers.{place-below}

-- a place, or that of one number more
or_behind : Option ℕ → Bool → ℕ → Option ℕ
or_behind (Some k) b last = Some k
or_behind None b last = if b then Some last else None

place-push : (n m : ℕ) (numbers : List ℕ) → place_of_number n (numbers ++ m ∷ []) ≡ or_behind (place_of_number n numbers) (n == m) (length numbers)
unfolding or_behind
place-push n m [] = refl
place-push n m (k ∷ numbers) = by (n == k) (place_of_number n numbers) (n == m) (place-push n m numbers)
  where
    by : (here : Bool) (r : Option ℕ) (b : Bool) → place_of_number n (numbers ++ m ∷ []) ≡ or_behind r b (length numbers) → (if here then Some 0 else option_map suc (place_of_number n (numbers ++ m ∷ []))) ≡ or_behind (if here then Some 0 else option_map suc r) b (length (k ∷ numbers))
    by true r b e = refl
    by false (Some j) b e = ap (option_map suc) e
    by false None true e = ap (option_map suc) e
    by false None false e = ap (option_map suc) e

module _ (firsts numbers : List ℕ) (places : IsPlaces firsts numbers) (n : ℕ) where
  -- a number with no place
  pub first-none : slice_index_or firsts n 4294967295 ≡ 4294967295 → place_of_number n numbers ≡ None
  first-none e = by (place_of_number n numbers) refl
    where
      by : (r : Option ℕ) → place_of_number n numbers ≡ r → r ≡ None
      by None p = refl
      by (Some k) p =
          let within = place-below n numbers k p in
          let code : place_code (place_of_number n numbers) ≡ k = ap place_code p in
          absurd (omega (arith, places.first n, places.few))

  -- a number with a place
  pub first-some : (place : ℕ) → slice_index_or firsts n 4294967295 ≡ place → place ≢ 4294967295 → place_of_number n numbers ≡ Some place
  first-some place e other = by (place_of_number n numbers) refl
    where
      by : (r : Option ℕ) → place_of_number n numbers ≡ r → r ≡ Some place
      by None p = absurd (other (sym e ∙ places.first n ∙ ap place_code p))
      by (Some k) p = let same : k ≡ place = sym (ap place_code p) ∙ sym (places.first n) ∙ e in ap (λ j. Some j) same

or_behind-other : (r : Option ℕ) (last : ℕ) → or_behind r false last ≡ r
unfolding or_behind
or_behind-other None last = refl
or_behind-other (Some k) last = refl

module _ (old firsts numbers : List ℕ) (m : ℕ) (places : IsPlaces old numbers) (same : (n : ℕ) → slice_index_or firsts n 4294967295 ≡ slice_index_or old n 4294967295) (within : m < length firsts) where
  now : IsPlaces firsts numbers
  now = record { few = places.few; first = λ n. same n ∙ places.first n }

  -- another number keeps its place
  other : (n : ℕ) → (n == m) ≡ false → (free : Bool) → slice_index_or (if free then slice_set firsts m (length numbers) else firsts) n 4294967295 ≡ slice_index_or firsts n 4294967295
  other n s false = refl
  other n s true = get_or-set_other firsts m n (length numbers) 4294967295 (λ e. true≢false (sym (eq-eqb n m e) ∙ s))

  others : (n : ℕ) → (n == m) ≡ false → (free : Bool) → slice_index_or (if free then slice_set firsts m (length numbers) else firsts) n 4294967295 ≡ place_code (or_behind (place_of_number n numbers) (n == m) (length numbers))
  others n s free = other n s free ∙ now.first n ∙ ap place_code (sym (or_behind-other (place_of_number n numbers) (length numbers))) ∙ ap (λ b. place_code (or_behind (place_of_number n numbers) b (length numbers))) (sym s)

  -- the number itself has the last place, or keeps an earlier one
  itself : (n : ℕ) → (n == m) ≡ true → (free : Bool) → (slice_index_or firsts m 4294967295 == 4294967295) ≡ free → slice_index_or (if free then slice_set firsts m (length numbers) else firsts) n 4294967295 ≡ place_code (or_behind (place_of_number n numbers) (n == m) (length numbers))
  unfolding or_behind
  itself n s true t =
      let at : n ≡ m = eqb-true n m s in
      let free : slice_index_or firsts n 4294967295 ≡ 4294967295 = ap (λ k. slice_index_or firsts k 4294967295) at ∙ eqb-true (slice_index_or firsts m 4294967295) 4294967295 t in
      let none = first-none firsts numbers now n free in
      get_or-set_at firsts m n (length numbers) 4294967295 at within ∙ sym ((λ i. place_code (or_behind (none i) (s i) (length numbers))))
  itself n s false t =
      let at : n ≡ m = eqb-true n m s in
      let held : slice_index_or firsts n 4294967295 ≢ 4294967295 = λ e. true≢false (sym (eq-eqb (slice_index_or firsts m 4294967295) 4294967295 (ap (λ k. slice_index_or firsts k 4294967295) (sym at) ∙ e)) ∙ t) in
      let some = first-some firsts numbers now n (slice_index_or firsts n 4294967295) refl held in
      sym (λ i. place_code (or_behind (some i) (s i) (length numbers)))

  -- one more number
  pub pushed : length numbers + 1 < 4294967295 → IsPlaces (marked firsts m (length numbers)) (numbers ++ m ∷ [])
  pushed room = record { few = rw (length-append numbers (m ∷ [])) room; first = λ n. by n (n == m) refl }
    where
      by : (n : ℕ) (b : Bool) → (n == m) ≡ b → slice_index_or (marked firsts m (length numbers)) n 4294967295 ≡ place_code (place_of_number n (numbers ++ m ∷ []))
      by n true s = itself n s (slice_index_or firsts m 4294967295 == 4294967295) refl ∙ ap place_code (sym (place-push n m numbers))
      by n false s = others n s (slice_index_or firsts m 4294967295 == 4294967295) ∙ ap place_code (sym (place-push n m numbers))
