-- Ports and pins by the numbers of their names in place of the texts.
use Rattle.std.proofs.Common.{◌≡◌, ℕ, zero, suc, ◌<◌, ◌==◌, Bool, true, false, ◌&&◌, ◌||◌, cond, List, [], ◌∷◌, length, Option, Some, None, refl, sym, ap, ◌∙◌}
use Rattle.std.specs.Prelude.{map, slice_get, bytes_eq, if◌then◌else◌}
use Rattle.std.specs.List.{flat_map, list_any}
use Rattle.std.specs.Option.{option_map, option_and_then}
use Rattle.std.proofs.lemmas.List.Folds.{list_all-append}
use Rattle.std.specs.Prelude.{ltb}
use Rattle.lp_text.specs.Texts.{text_at, distinct, same_text_comm}
use Rattle.lp_model.specs.Agreement.{numbers_below}
use Rattle.lp_model.specs.declared.library.Pin.{Pin}
use Rattle.lp_model.specs.declared.netlist.Direction.{Direction}
use Rattle.lp_model.specs.declared.netlist.Direction.TheVariants.{Input, Output}
use Rattle.lp_model.specs.LibraryView.{PinView, pin_view}
use Rattle.lp_spec_design.specs.Keys.{Name}
use Rattle.lp_spec_design.specs.Netlists.{first}
use Rattle.lp_spec_design.specs.Graph.{is_output_pin}
use Rattle.lp_places.specs.Places.{place_of_number, has_number}
use Rattle.lp_places.proofs.Numbers.{below-left, below-right, below-head, below-tail, same_name}
use Rattle.lp_connections.specs.Parts.{pin_names, output_names}

and_false : (b c : Bool) → ((b && false) || c) ≡ c
and_false true c = refl
and_false false c = refl

and_true : (b c : Bool) → ((b && true) || c) ≡ (b || c)
and_true true c = refl
and_true false c = refl

-- the first number of each item
pub below-first : {A : Type 0} (n : ℕ) (f : A → ℕ) (rest : A → List ℕ) (xs : List A) → numbers_below n (flat_map (λ x. f x ∷ rest x) xs) ≡ true → numbers_below n (map f xs) ≡ true
below-first n f rest [] below = refl
below-first n f rest (x ∷ xs) below =
    let here = below-left n (f x ∷ rest x) (flat_map (λ y. f y ∷ rest y) xs) below in
    let behind = below-right n (f x ∷ rest x) (flat_map (λ y. f y ∷ rest y) xs) below in
    let head : numbers_below n (f x ∷ []) ≡ true = below-left n (f x ∷ []) (rest x) here in
    list_all-append (λ k. ltb k n) (f x ∷ []) (map f xs) ∙ (λ i. head i && below-first n f rest xs behind i)

-- the numbers of the item at a place
pub below-at : {A : Type 0} (n : ℕ) (numbers : A → List ℕ) (xs : List A) (k : ℕ) (x : A) → slice_get xs k ≡ Some x → numbers_below n (flat_map numbers xs) ≡ true → numbers_below n (numbers x) ≡ true
below-at n numbers [] k x e below = cc
below-at n numbers (y ∷ xs) zero x e below =
    let same : y ≡ x = cc in
    ap (λ z. numbers_below n (numbers z)) (sym same) ∙ below-left n (numbers y) (flat_map numbers xs) below
below-at n numbers (y ∷ xs) (suc k) x e below = below-at n numbers xs k x e (below-right n (numbers y) (flat_map numbers xs) below)

module _ (texts : List (List ℕ)) (apart : distinct texts ≡ true) where
  module _ {A V : Type 0} (view : A → V) (name : V → Name) (number : A → ℕ) (named : (x : A) → name (view x) ≡ text_at texts (number x)) where
    -- a name at one item
    here_same : (k : ℕ) (x : A) → k < length texts → number x < length texts → bytes_eq (name (view x)) (text_at texts k) ≡ (k == number x)
    here_same k x l m = ap (λ n. bytes_eq n (text_at texts k)) (named x) ∙ same_text_comm (text_at texts (number x)) (text_at texts k) ∙ same_name texts apart k (number x) l m

    -- what has a name, by its place
    pub first_same : (k : ℕ) (xs : List A) → k < length texts → numbers_below (length texts) (map number xs) ≡ true → first (λ v. bytes_eq (name v) (text_at texts k)) (map view xs) ≡ option_map view (option_and_then (slice_get xs) (place_of_number k (map number xs)))
    first_same k [] l below = refl
    first_same k (x ∷ xs) l below =
        let m = below-head (length texts) (number x) (map number xs) below in
        let behind = first_same k xs l (below-tail (length texts) (number x) (map number xs) below) in
        (λ i. cond (here_same k x l m i) (Some (view x)) (first (λ v. bytes_eq (name v) (text_at texts k)) (map view xs)))
        ∙ by (k == number x) (place_of_number k (map number xs)) behind
      where
        by : (b : Bool) (r : Option ℕ) → first (λ v. bytes_eq (name v) (text_at texts k)) (map view xs) ≡ option_map view (option_and_then (slice_get xs) r) → cond b (Some (view x)) (first (λ v. bytes_eq (name v) (text_at texts k)) (map view xs)) ≡ option_map view (option_and_then (slice_get (x ∷ xs)) (if b then Some 0 else option_map suc r))
        by true r e = refl
        by false None e = e
        by false (Some j) e = e

    -- whether anything has a name
    pub any_same : (k : ℕ) (xs : List A) → k < length texts → numbers_below (length texts) (map number xs) ≡ true → list_any (λ v. bytes_eq (name v) (text_at texts k)) (map view xs) ≡ has_number k (map number xs)
    any_same k [] l below = refl
    any_same k (x ∷ xs) l below =
        let m = below-head (length texts) (number x) (map number xs) below in
        let behind = any_same k xs l (below-tail (length texts) (number x) (map number xs) below) in
        λ i. here_same k x l m i || behind i

  -- whether a name is among names
  pub among_same : (k : ℕ) (ks : List ℕ) → k < length texts → numbers_below (length texts) ks ≡ true → list_any (bytes_eq (text_at texts k)) (map (text_at texts) ks) ≡ has_number k ks
  among_same k [] l below = refl
  among_same k (j ∷ ks) l below =
      let m = below-head (length texts) j ks below in
      let behind = among_same k ks l (below-tail (length texts) j ks below) in
      λ i. same_name texts apart k j l m i || behind i

  -- whether an output has a name
  pub output_same : (k : ℕ) (qs : List Pin) → k < length texts → numbers_below (length texts) (pin_names qs) ≡ true → list_any (λ (v : PinView). bytes_eq v.name (text_at texts k) && is_output_pin v) (map (pin_view texts) qs) ≡ has_number k (output_names qs)
  output_same k [] l below = refl
  output_same k (q ∷ qs) l below =
      let m = below-head (length texts) q.name.0 (pin_names qs) below in
      let behind = output_same k qs l (below-tail (length texts) q.name.0 (pin_names qs) below) in
      let here = here_same (pin_view texts) (λ (v : PinView). v.name) (λ (x : Pin). x.name.0) (λ x. refl) k q l m in
      (λ i. (here i && is_output_pin (pin_view texts q)) || behind i)
      ∙ by q.direction refl
    where
      by : (d : Direction) → q.direction ≡ d → (((k == q.name.0) && is_output_pin (pin_view texts q)) || has_number k (output_names qs)) ≡ has_number k (output_names (q ∷ qs))
      by Input e = rw e (and_false (k == q.name.0) (has_number k (output_names qs)))
      by Output e = rw e (and_true (k == q.name.0) (has_number k (output_names qs)))
