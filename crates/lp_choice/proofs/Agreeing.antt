-- Every choice that begins as one, by whether the next value is 0 or 1.
use Rattle.std.proofs.Common.{◌≡◌, ℕ, suc, zero, Bool, true, false, ◌&&◌, List, [], ◌∷◌, ◌++◌, map, refl, sym, ◌∙◌, ap, append_assoc}
use Rattle.std.specs.List.{list_all}
use Rattle.std.proofs.lemmas.List.{append-nil}
use Rattle.std.proofs.lemmas.List.Folds.{list_all-append, list_all-map}
use mathlib.Core.Bool.{beq}
use Rattle.lp_spec_design.specs.Keys.{same_bool}
use Rattle.lp_spec_fit.specs.Equality.{choices}

halves : (p : List Bool → Bool) (n : ℕ) → list_all p (choices (suc n)) ≡ (list_all (λ c. p (false ∷ c)) (choices n) && list_all (λ c. p (true ∷ c)) (choices n))
halves p n =
    list_all-append p (map (λ c. false ∷ c) (choices n)) (map (λ c. true ∷ c) (choices n))
    ∙ (λ i. list_all-map p (λ c. false ∷ c) (choices n) i && list_all-map p (λ c. true ∷ c) (choices n) i)

module _ (a : List Bool → Bool) (front : List Bool) where
  begun : (next : List Bool) (b : Bool) (n : ℕ) → next ≡ front ++ b ∷ [] → list_all (λ c. a (next ++ c)) (choices n) ≡ list_all (λ c. a (front ++ b ∷ c)) (choices n)
  begun next b n e = λ i. list_all (λ c. a ((ap (λ l. l ++ c) e ∙ append_assoc front (b ∷ []) c) i)) (choices n)

  pub both : (low high : List Bool) (k n : ℕ) (x y : Bool) → k ≡ suc n → low ≡ front ++ false ∷ [] → high ≡ front ++ true ∷ []
      → x ≡ list_all (λ c. a (low ++ c)) (choices n) → y ≡ list_all (λ c. a (high ++ c)) (choices n)
      → (x && y) ≡ list_all (λ c. a (front ++ c)) (choices k)
  both low high k n x y is l h ex ey =
      (λ i. (ex ∙ begun low false n l) i && (ey ∙ begun high true n h) i)
      ∙ sym (ap (λ j. list_all (λ c. a (front ++ c)) (choices j)) is ∙ halves (λ c. a (front ++ c)) n)

  pub neither : (low : List Bool) (k n : ℕ) (x : Bool) → k ≡ suc n → low ≡ front ++ false ∷ [] → x ≡ list_all (λ c. a (low ++ c)) (choices n) → x ≡ false
      → x ≡ list_all (λ c. a (front ++ c)) (choices k)
  neither low k n x is l ex off =
      off ∙ (ap (λ b. b && list_all (λ c. a ((front ++ true ∷ []) ++ c)) (choices n)) (sym off)
      ∙ both low (front ++ true ∷ []) k n x (list_all (λ c. a ((front ++ true ∷ []) ++ c)) (choices n)) is l refl ex refl)

  and-true : (b : Bool) → (b && true) ≡ b
  and-true true = refl
  and-true false = refl

  pub alone : (k : ℕ) → k ≡ zero → list_all (λ c. a (front ++ c)) (choices k) ≡ a front
  alone k is =
      ap (λ j. list_all (λ c. a (front ++ c)) (choices j)) is
      ∙ (and-true (a (front ++ [])) ∙ ap a (append-nil front))

pub beq-same : (a b : Bool) → beq a b ≡ same_bool a b
beq-same true true = refl
beq-same true false = refl
beq-same false true = refl
beq-same false false = refl
