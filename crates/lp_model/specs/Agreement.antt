-- Numbers of names under which two tables have the same texts.
use Rattle.std.specs.Prelude.{◌≡◌, ℕ, Bool, true, ltb, List, [], ◌∷◌, ◌++◌, map, length, Option, Some, None}
use Rattle.std.specs.List.{list_all, flat_map}
use Rattle.std.specs.Option.{option_map}
use Rattle.std.proofs.Common.{refl, ap}
use Rattle.std.proofs.lemmas.Bool.{ltb-true, and_parts}
use Rattle.lp_text.specs.Texts.{text_at, Grown, Grown-KeepsNumbers}
use Rattle.lp_text.specs.declared.names.NameId.{NameId}

-- each number is one of a table of this many names
abbrev pub numbers_below : ℕ → List ℕ → Bool
numbers_below count numbers = list_all (λ n. ltb n count) numbers

-- the numbers in a value that may be missing
abbrev pub option_numbers : {A : Type 0} → (A → List ℕ) → Option A → List ℕ
option_numbers numbers None = []
option_numbers numbers (Some x) = numbers x

abbrev pub name_numbers : List NameId → List ℕ
name_numbers names = map (λ n. n.0) names

-- the texts of names
abbrev pub name_texts : List (List ℕ) → List NameId → List (List ℕ)
name_texts texts names = map (λ n. text_at texts n.0) names

-- both tables have the same texts under these numbers
abbrev pub Agree : List (List ℕ) → List (List ℕ) → List ℕ → Type 0
Agree old new [] = Unit {0}
Agree old new (n ∷ numbers) = (text_at new n ≡ text_at old n) × Agree old new numbers

module _ (old new : List (List ℕ)) where
  pub Agree-left : (xs ys : List ℕ) → Agree old new (xs ++ ys) → Agree old new xs
  Agree-left [] ys a = tt
  Agree-left (x ∷ xs) ys a = (a.0, Agree-left xs ys a.1)

  pub Agree-right : (xs ys : List ℕ) → Agree old new (xs ++ ys) → Agree old new ys
  Agree-right [] ys a = a
  Agree-right (x ∷ xs) ys a = Agree-right xs ys a.1

  -- a view of each value of a list
  pub map-same : {A B : Type 0} (numbers : A → List ℕ) (view : List (List ℕ) → A → B) → ((x : A) → Agree old new (numbers x) → view new x ≡ view old x) → (xs : List A) → Agree old new (flat_map numbers xs) → map (view new) xs ≡ map (view old) xs
  map-same numbers view same [] a = refl
  map-same numbers view same (x ∷ xs) a =
      let here : view new x ≡ view old x = same x (Agree-left (numbers x) (flat_map numbers xs) a) in
      let others : map (view new) xs ≡ map (view old) xs = map-same numbers view same xs (Agree-right (numbers x) (flat_map numbers xs) a) in
      rw (here, others) refl

  -- a view of a value that may be missing
  pub option-same : {A B : Type 0} (numbers : A → List ℕ) (view : List (List ℕ) → A → B) → ((x : A) → Agree old new (numbers x) → view new x ≡ view old x) → (o : Option A) → Agree old new (option_numbers numbers o) → option_map (view new) o ≡ option_map (view old) o
  option-same numbers view same None a = refl
  option-same numbers view same (Some x) a = ap (λ y. Some y) (same x a)

  pub names-same : (names : List NameId) → Agree old new (name_numbers names) → name_texts new names ≡ name_texts old names
  names-same [] a = refl
  names-same (n ∷ names) a = rw (a.0, names-same names a.1) refl

-- a table that has grown has the same texts under the numbers that it had before
pub Agree-grown : (old new : List (List ℕ)) → Grown old new → (numbers : List ℕ) → numbers_below (length old) numbers ≡ true → Agree old new numbers
Agree-grown old new grown [] e = tt
Agree-grown old new grown (n ∷ numbers) e =
    let both = and_parts (ltb n (length old)) (numbers_below (length old) numbers) e in
    ((Grown-KeepsNumbers old new grown).0 n (ltb-true n (length old) both.0), Agree-grown old new grown numbers both.1)
