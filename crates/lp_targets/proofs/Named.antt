-- Modules and cells by the numbers of their names in place of the texts.
use Rattle.std.proofs.Common.{◌≡◌, ℕ, suc, ◌<◌, ◌==◌, Bool, true, false, ◌&&◌, ◌||◌, cond, List, [], ◌∷◌, length, Option, Some, None, refl, ap, ◌∙◌}
use Rattle.std.specs.Prelude.{map, is_none, slice_get, ltb, bytes_eq, if◌then◌else◌}
use Rattle.std.specs.List.{flat_map, list_any}
use Rattle.std.specs.Option.{option_map, option_and_then}
use Rattle.std.proofs.lemmas.List.Folds.{list_all-append}
use Rattle.lp_text.specs.Texts.{text_at, distinct, same_text_comm}
use Rattle.lp_model.specs.Agreement.{numbers_below}
use Rattle.lp_spec_design.specs.Keys.{Name}
use Rattle.lp_spec_design.specs.Netlists.{first}
use Rattle.lp_places.specs.Places.{place_of_number, has_number}
use Rattle.lp_places.proofs.Numbers.{below-left, below-right, below-head, below-tail, same_name}

-- the first number of each item
pub below-first : {A : Type 0} (n : ℕ) (f : A → ℕ) (rest : A → List ℕ) (xs : List A) → numbers_below n (flat_map (λ x. f x ∷ rest x) xs) ≡ true → numbers_below n (map f xs) ≡ true
below-first n f rest [] below = refl
below-first n f rest (x ∷ xs) below =
    let here = below-left n (f x ∷ rest x) (flat_map (λ y. f y ∷ rest y) xs) below in
    let behind = below-right n (f x ∷ rest x) (flat_map (λ y. f y ∷ rest y) xs) below in
    let head : numbers_below n (f x ∷ []) ≡ true = below-left n (f x ∷ []) (rest x) here in
    list_all-append (λ k. ltb k n) (f x ∷ []) (map f xs) ∙ (λ i. head i && below-first n f rest xs behind i)

module _ (texts : List (List ℕ)) (apart : distinct texts ≡ true) {A V : Type 0} (view : A → V) (name : V → Name) (number : A → ℕ) (named : (x : A) → name (view x) ≡ text_at texts (number x)) where
  -- a name at one item
  here_same : (k : ℕ) (x : A) → k < length texts → number x < length texts → bytes_eq (name (view x)) (text_at texts k) ≡ (k == number x)
  here_same k x l m = ap (λ n. bytes_eq n (text_at texts k)) (named x) ∙ same_text_comm (text_at texts (number x)) (text_at texts k) ∙ same_name texts apart k (number x) l m

  -- what has a name, by its place
  pub first_same : (k : ℕ) (xs : List A) → k < length texts → numbers_below (length texts) (map number xs) ≡ true → first (λ v. bytes_eq (name v) (text_at texts k)) (map view xs) ≡ option_and_then (slice_get (map view xs)) (place_of_number k (map number xs))
  first_same k [] l below = refl
  first_same k (x ∷ xs) l below =
      let m = below-head (length texts) (number x) (map number xs) below in
      let behind = first_same k xs l (below-tail (length texts) (number x) (map number xs) below) in
      (λ i. cond (here_same k x l m i) (Some (view x)) (first (λ v. bytes_eq (name v) (text_at texts k)) (map view xs)))
      ∙ by (k == number x) (place_of_number k (map number xs)) behind
    where
      by : (b : Bool) (r : Option ℕ) → first (λ v. bytes_eq (name v) (text_at texts k)) (map view xs) ≡ option_and_then (slice_get (map view xs)) r → cond b (Some (view x)) (first (λ v. bytes_eq (name v) (text_at texts k)) (map view xs)) ≡ option_and_then (slice_get (view x ∷ map view xs)) (if b then Some 0 else option_map suc r)
      by true r e = refl
      by false None e = e
      by false (Some j) e = e

  -- whether anything has a name
  pub none_same : (k : ℕ) (xs : List A) → k < length texts → numbers_below (length texts) (map number xs) ≡ true → is_none (first (λ v. bytes_eq (name v) (text_at texts k)) (map view xs)) ≡ is_none (place_of_number k (map number xs))
  none_same k [] l below = refl
  none_same k (x ∷ xs) l below =
      let m = below-head (length texts) (number x) (map number xs) below in
      let behind = none_same k xs l (below-tail (length texts) (number x) (map number xs) below) in
      (λ i. is_none (cond (here_same k x l m i) (Some (view x)) (first (λ v. bytes_eq (name v) (text_at texts k)) (map view xs))))
      ∙ by (k == number x) (place_of_number k (map number xs)) behind
    where
      by : (b : Bool) (r : Option ℕ) → is_none (first (λ v. bytes_eq (name v) (text_at texts k)) (map view xs)) ≡ is_none r → is_none (cond b (Some (view x)) (first (λ v. bytes_eq (name v) (text_at texts k)) (map view xs))) ≡ is_none (if b then Some 0 else option_map suc r)
      by true r e = refl
      by false None e = e
      by false (Some j) e = e

  pub any_same : (k : ℕ) (xs : List A) → k < length texts → numbers_below (length texts) (map number xs) ≡ true → list_any (λ v. bytes_eq (name v) (text_at texts k)) (map view xs) ≡ has_number k (map number xs)
  any_same k [] l below = refl
  any_same k (x ∷ xs) l below =
      let m = below-head (length texts) (number x) (map number xs) below in
      let behind = any_same k xs l (below-tail (length texts) (number x) (map number xs) below) in
      λ i. here_same k x l m i || behind i
