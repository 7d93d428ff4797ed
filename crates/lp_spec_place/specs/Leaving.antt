-- Where a text leaves a language (own rule).
use Rattle.std.proofs.lemmas.List.{take-append-drop}
use Rattle.std.proofs.Common.{◌≡◌, ℕ, zero, suc, ◌+◌, ◌-◌, ◌<◌, ◌≤◌, ◌⊎◌, List, [], ◌∷◌, ◌++◌, length, take, drop, refl, sym, ap, ◌∙◌, subst, inl, inr, arith, append_assoc}

-- the text up to the place can go on to a text of the language; with the token at the place it cannot; a text that ends at the place is none itself
pub record Leaves (T : Type 0) (language : List T → Type 0) (text : List T) (place : ℕ) : Type 0 where
  pub within : place ≤ length text
  pub before : (rest : List T) × language (take place text ++ rest)
  pub here : (t : T) (after : List T) → drop place text ≡ t ∷ after → (rest : List T) → language (take place text ++ t ∷ rest) → ⊥
  pub ended : drop place text ≡ [] → language text → ⊥

module _ {T : Type 0} where
  -- a text cut at a place before its end, and at a later one
  cut : (text : List T) (p q : ℕ) → p < q → q ≤ length text → (t : T) × (after more : List T) × (drop p text ≡ t ∷ after) × (take q text ≡ take p text ++ t ∷ more)
  cut [] p q less within = absurd (omega arith)
  cut (t ∷ text) zero (suc q) less within = (t, text, take q text, refl, refl)
  cut (t ∷ text) zero zero less within = absurd (omega arith)
  cut (t ∷ text) (suc p) zero less within = absurd (omega arith)
  cut (t ∷ text) (suc p) (suc q) less within =
      let behind = cut text p q (omega arith) (omega arith) in
      (behind.0, behind.1, behind.2, behind.3, ap (λ xs. t ∷ xs) behind.4)

  not_before : (language : List T → Type 0) (text : List T) (p q : ℕ) → Leaves T language text p → Leaves T language text q → p < q → ⊥
  not_before language text p q first second less =
      let parts = cut text p q less second.within in
      let whole : take q text ++ second.before.0 ≡ take p text ++ parts.0 ∷ (parts.2 ++ second.before.0) = ap (λ xs. xs ++ second.before.0) parts.4 ∙ append_assoc (take p text) (parts.0 ∷ parts.2) second.before.0 in
      first.here parts.0 parts.1 parts.3 (parts.2 ++ second.before.0) (subst language whole second.before.1)

  -- a text leaves a language at one place
  pub one_place : (language : List T → Type 0) (text : List T) (p q : ℕ) → Leaves T language text p → Leaves T language text q → p ≡ q
  one_place language text p q first second =
      elim (compare_cases p q) [
        | inl less ↦ absurd (not_before language text p q first second less)
        | inr others ↦ elim others [ inl same ↦ same | inr more ↦ absurd (not_before language text q p second first more) ]
      ]
    where
      compare_cases : (a b : ℕ) → (a < b) ⊎ ((a ≡ b) ⊎ (b < a))
      compare_cases zero zero = inr (inl refl)
      compare_cases zero (suc b) = inl (omega arith)
      compare_cases (suc a) zero = inr (inr (omega arith))
      compare_cases (suc a) (suc b) = elim (compare_cases a b) [ inl less ↦ inl (omega arith) | inr others ↦ elim others [ inl same ↦ inr (inl (ap suc same)) | inr more ↦ inr (inr (omega arith)) ] ]

  -- a text that leaves a language is none of its texts
  pub leaves_none : (language : List T → Type 0) (text : List T) (p : ℕ) → Leaves T language text p → language text → ⊥
  leaves_none language text p leaves h = by (drop p text) refl
    where
      by : (back : List T) → drop p text ≡ back → ⊥
      by [] e = leaves.ended e h
      by (t ∷ after) e = leaves.here t after e after (subst language (sym (take-append-drop p text) ∙ ap (λ xs. take p text ++ xs) e) h)
