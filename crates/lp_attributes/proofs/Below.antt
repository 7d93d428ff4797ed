-- Numbers of names that are below a count.
use Rattle.std.proofs.Common.{◌≡◌, ℕ, ◌<◌, true, List, [], ◌∷◌, ◌++◌, refl, sym, ◌∙◌}
use Rattle.std.specs.Prelude.{ltb}
use Rattle.std.specs.List.{flat_map}
use Rattle.std.proofs.lemmas.Bool.{and_parts, and_from, lt-ltb, ltb-true}
use Rattle.std.proofs.lemmas.List.Folds.{list_all-append}
use Rattle.lp_text.specs.declared.names.NameId.{NameId}
use Rattle.lp_model.specs.Agreement.{numbers_below, name_numbers}

pub below_join : (n : ℕ) (xs ys : List ℕ) → numbers_below n xs ≡ true → numbers_below n ys ≡ true → numbers_below n (xs ++ ys) ≡ true
below_join n xs ys x y = list_all-append (λ k. ltb k n) xs ys ∙ and_from _ _ x y

pub below_cons : (n k : ℕ) (xs : List ℕ) → k < n → numbers_below n xs ≡ true → numbers_below n (k ∷ xs) ≡ true
below_cons n k xs below others = and_from _ _ (lt-ltb k n below) others

pub below_left : (n : ℕ) (xs ys : List ℕ) → numbers_below n (xs ++ ys) ≡ true → numbers_below n xs ≡ true
below_left n xs ys h = (and_parts (numbers_below n xs) (numbers_below n ys) (sym (list_all-append (λ k. ltb k n) xs ys) ∙ h)).0

pub below_right : (n : ℕ) (xs ys : List ℕ) → numbers_below n (xs ++ ys) ≡ true → numbers_below n ys ≡ true
below_right n xs ys h = (and_parts (numbers_below n xs) (numbers_below n ys) (sym (list_all-append (λ k. ltb k n) xs ys) ∙ h)).1

-- one more name
pub below_name : (n : ℕ) (names : List NameId) (id : NameId) → id.0 < n → numbers_below n (name_numbers names) ≡ true → numbers_below n (name_numbers (names ++ id ∷ [])) ≡ true
below_name n [] id below h = below_cons n id.0 [] below refl
below_name n (m ∷ names) id below h =
    let both = and_parts (ltb m.0 n) (numbers_below n (name_numbers names)) h in
    and_from _ _ both.0 (below_name n names id below both.1)

-- one more value with numbers in it
pub below_more : (n : ℕ) {A : Type 0} (numbers : A → List ℕ) (xs : List A) (x : A) → numbers_below n (flat_map numbers xs) ≡ true → numbers_below n (numbers x) ≡ true → numbers_below n (flat_map numbers (xs ++ x ∷ [])) ≡ true
below_more n numbers [] x h one = below_join n (numbers x) [] one refl
below_more n numbers (y ∷ xs) x h one =
    below_join n (numbers y) (flat_map numbers (xs ++ x ∷ [])) (below_left n (numbers y) (flat_map numbers xs) h) (below_more n numbers xs x (below_right n (numbers y) (flat_map numbers xs) h) one)

pub below_head : (n k : ℕ) (xs : List ℕ) → numbers_below n (k ∷ xs) ≡ true → k < n
below_head n k xs h = ltb-true k n (and_parts (ltb k n) (numbers_below n xs) h).0

pub below_tail : (n k : ℕ) (xs : List ℕ) → numbers_below n (k ∷ xs) ≡ true → numbers_below n xs ≡ true
below_tail n k xs h = (and_parts (ltb k n) (numbers_below n xs) h).1
