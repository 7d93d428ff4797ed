-- The longest front of a list whose elements pass, and what is left behind it.
use Rattle.std.proofs.Common.{◌≡◌, Bool, true, false, List, [], ◌∷◌, ◌++◌, refl, ap, ◌∙◌, inl, inr}
use Rattle.std.specs.Prelude.{IsTrue, not, take_while}
use Rattle.std.specs.List.{list_all}
use Rattle.std.proofs.lemmas.Bool.{and_parts, and_from, not-true, not_from_false, cond-true, cond-false, cases_Bool}
use Rattle.std.proofs.lemmas.List.Sums.{take_while-cons}
use Rattle.lp_token.specs.Reading.{drop_while}

-- the first element, where there is one, does not pass
abbrev pub stops : {A : Type 0} → (A → Bool) → List A → Bool
stops p [] = true
stops p (x ∷ xs) = not (p x)

pub take_while_yes : {A : Type 0} (p : A → Bool) (x : A) (xs : List A) → p x ≡ true → take_while p (x ∷ xs) ≡ x ∷ take_while p xs
take_while_yes p x xs h = take_while-cons p x xs ∙ cond-true (p x) (x ∷ take_while p xs) [] h

pub take_while_no : {A : Type 0} (p : A → Bool) (x : A) (xs : List A) → p x ≡ false → take_while p (x ∷ xs) ≡ []
take_while_no p x xs h = take_while-cons p x xs ∙ cond-false (p x) (x ∷ take_while p xs) [] h

pub drop_while_yes : {A : Type 0} (p : A → Bool) (x : A) (xs : List A) → p x ≡ true → drop_while p (x ∷ xs) ≡ drop_while p xs
drop_while_yes p x xs h = cond-true (p x) (drop_while p xs) (x ∷ xs) h

pub drop_while_no : {A : Type 0} (p : A → Bool) (x : A) (xs : List A) → p x ≡ false → drop_while p (x ∷ xs) ≡ x ∷ xs
drop_while_no p x xs h = cond-false (p x) (drop_while p xs) (x ∷ xs) h

-- the front and what is left make the list
pub take_while-append-drop_while : {A : Type 0} (p : A → Bool) (xs : List A) → take_while p xs ++ drop_while p xs ≡ xs
take_while-append-drop_while p [] = refl
take_while-append-drop_while p (x ∷ xs) =
    elim (cases_Bool (p x)) [
      | inl h ↦ rw (take_while_yes p x xs h, drop_while_yes p x xs h) (ap (λ ys. x ∷ ys) (take_while-append-drop_while p xs))
      | inr h ↦ rw (take_while_no p x xs h, drop_while_no p x xs h) refl
    ]

-- each element of the front passes
pub take_while_passes : {A : Type 0} (p : A → Bool) (xs : List A) → IsTrue (list_all p (take_while p xs))
take_while_passes p [] = refl
take_while_passes p (x ∷ xs) =
    elim (cases_Bool (p x)) [
      | inl h ↦ rw (take_while_yes p x xs h) (and_from (p x) (list_all p (take_while p xs)) h (take_while_passes p xs))
      | inr h ↦ rw (take_while_no p x xs h) refl
    ]

-- the first element that is left does not
pub drop_while_stops : {A : Type 0} (p : A → Bool) (xs : List A) → IsTrue (stops p (drop_while p xs))
drop_while_stops p [] = refl
drop_while_stops p (x ∷ xs) =
    elim (cases_Bool (p x)) [
      | inl h ↦ rw (drop_while_yes p x xs h) (drop_while_stops p xs)
      | inr h ↦ rw (drop_while_no p x xs h) (not_from_false (p x) h)
    ]

-- a front that passes and is followed by what does not is the longest
pub take_while_front : {A : Type 0} (p : A → Bool) (xs ys : List A) → IsTrue (list_all p xs) → IsTrue (stops p ys) → take_while p (xs ++ ys) ≡ xs
take_while_front p [] [] h k = refl
take_while_front p [] (y ∷ ys) h k = take_while_no p y ys (not-true (p y) k)
take_while_front p (x ∷ xs) ys h k =
    let parts = and_parts (p x) (list_all p xs) h in
    rw (take_while_yes p x (xs ++ ys) parts.0) (ap (λ zs. x ∷ zs) (take_while_front p xs ys parts.1 k))

pub drop_while_front : {A : Type 0} (p : A → Bool) (xs ys : List A) → IsTrue (list_all p xs) → IsTrue (stops p ys) → drop_while p (xs ++ ys) ≡ ys
drop_while_front p [] [] h k = refl
drop_while_front p [] (y ∷ ys) h k = drop_while_no p y ys (not-true (p y) k)
drop_while_front p (x ∷ xs) ys h k =
    let parts = and_parts (p x) (list_all p xs) h in
    rw (drop_while_yes p x (xs ++ ys) parts.0) (drop_while_front p xs ys parts.1 k)

-- nothing is left of a list that passes
pub drop_while_all : {A : Type 0} (p : A → Bool) (xs : List A) → IsTrue (list_all p xs) → drop_while p xs ≡ []
drop_while_all p [] h = refl
drop_while_all p (x ∷ xs) h =
    let parts = and_parts (p x) (list_all p xs) h in
    rw (drop_while_yes p x xs parts.0) (drop_while_all p xs parts.1)
