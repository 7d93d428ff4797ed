-- Different names are no more than the table has: so cells are few, and a module with more nets than names has a name twice.
use Rattle.std.proofs.Common.{◌≡◌, ℕ, ◌≤◌, ◌<◌, Bool, true, false, not, List, [], ◌∷◌, ◌++◌, map, length, Some, None, inl, inr, refl, sym, ap, ◌∙◌, arith}
use Rattle.std.specs.Prelude.{ltb, eqb, ◌||◌}
use Rattle.std.specs.List.{list_any, AllByRecursion, IsDistinct}
use Rattle.std.proofs.lemmas.Bool.{and_parts, and_from, ltb-true, eqb-true, true≢false, cases_Bool, not-true}
use Rattle.std.proofs.lemmas.Map.Steps.{length-le_from_distinct_below}
use Rattle.lp_text.specs.Texts.{text_at, same_text, same_text-true, true-same_text, has_text, has_text-append, distinct}
use Rattle.lp_model.specs.Agreement.{numbers_below}
use Rattle.lp_cells.specs.Reasons.{repeated}

module _ (names : List (List ℕ)) where
  abbrev text : ℕ → List ℕ
  text n = text_at names n

  or_true : (a b : Bool) → a ≡ true → (a || b) ≡ true
  or_true true b e = refl
  or_true false b e = absurd (true≢false (sym e))

  any_below : (n q : ℕ) (ks : List ℕ) → numbers_below n ks ≡ true → list_any (eqb q) ks ≡ true → q < n
  any_below n q [] b h = absurd (true≢false (sym h))
  any_below n q (k ∷ ks) b h =
      let parts = and_parts (ltb k n) (numbers_below n ks) b in
      elim (cases_Bool (eqb q k)) [
        | inl e ↦ let same = eqb-true q k e in let below = ltb-true k n parts.0 in omega (arith, same, below)
        | inr e ↦ any_below n q ks parts.1 (ap (λ x. x || list_any (eqb q) ks) (sym e) ∙ h)
      ]

  -- ---- numbers whose texts differ

  apart-one : (k : ℕ) (ks : List ℕ) → has_text (text k) (map text ks) ≡ false → AllByRecursion (λ y. eqb k y ≡ false) ks
  apart-one k [] h = tt
  apart-one k (y ∷ ks) h =
      elim (cases_Bool (eqb k y)) [
        | inl e ↦ absurd (true≢false (sym (or_true (same_text (text k) (text y)) (has_text (text k) (map text ks)) (true-same_text (text k) (text y) (ap text (eqb-true k y e)))) ∙ h))
        | inr e ↦ (e, apart-one k ks (or_false (same_text (text k) (text y)) (has_text (text k) (map text ks)) h))
      ]
    where
      or_false : (a b : Bool) → (a || b) ≡ false → b ≡ false
      or_false true b e = absurd (true≢false e)
      or_false false b e = e

  numbers-apart : (ks : List ℕ) → distinct (map text ks) ≡ true → IsDistinct eqb ks
  unfolding IsDistinct
  numbers-apart [] h = tt
  numbers-apart (k ∷ ks) h =
      let parts = and_parts (not (has_text (text k) (map text ks))) (distinct (map text ks)) h in
      (apart-one k ks (not-true (has_text (text k) (map text ks)) parts.0), numbers-apart ks parts.1)

  pub few-distinct : (n : ℕ) (ks : List ℕ) → distinct (map text ks) ≡ true → numbers_below n ks ≡ true → length ks ≤ n
  few-distinct n ks d b = length-le_from_distinct_below ks n (numbers-apart ks d) (λ q h. any_below n q ks b h)

-- ---- names none of which is repeated differ

met-apart : (met names : List (List ℕ)) (t : List ℕ) → has_text t met ≡ true → repeated met names ≡ None → has_text t names ≡ false
met-apart met [] t h r = refl
met-apart met (n ∷ names) t h r = by (same_text t n) refl (has_text n met) refl (λ rest. met-apart (met ++ n ∷ []) names t (has_text-append t met (n ∷ []) ∙ ap (λ x. x || has_text t (n ∷ [])) h) rest)
  where
    by : (a : Bool) → same_text t n ≡ a → (b : Bool) → has_text n met ≡ b → (repeated (met ++ n ∷ []) names ≡ None → has_text t names ≡ false) → (same_text t n || has_text t names) ≡ false
    by a e true m more = absurd (let gone : Some n ≡ None = rw (m) at r in let none : ⊥ = cc in none)
    by true e false m more = absurd (true≢false (sym h ∙ ap (λ x. has_text x met) (same_text-true t n e) ∙ m))
    by false e false m more = let rest : repeated (met ++ n ∷ []) names ≡ None = rw (m) at r in ap (λ x. x || has_text t names) e ∙ more rest

pub unrepeated-distinct : (met names : List (List ℕ)) → repeated met names ≡ None → distinct names ≡ true
unrepeated-distinct met [] r = refl
unrepeated-distinct met (n ∷ names) r = by (has_text n met) refl (λ rest. unrepeated-distinct (met ++ n ∷ []) names rest)
  where
    or_right : (a b : Bool) → b ≡ true → (a || (b || false)) ≡ true
    or_right true b e = refl
    or_right false true e = refl
    or_right false false e = absurd (true≢false (sym e))

    by : (b : Bool) → has_text n met ≡ b → (repeated (met ++ n ∷ []) names ≡ None → distinct names ≡ true) → distinct (n ∷ names) ≡ true
    by true m more = absurd (let gone : Some n ≡ None = rw (m) at r in let none : ⊥ = cc in none)
    by false m more =
        let rest : repeated (met ++ n ∷ []) names ≡ None = rw (m) at r in
        let here = met-apart (met ++ n ∷ []) names n (has_text-append n met (n ∷ []) ∙ or_right (has_text n met) (same_text n n) (true-same_text n n refl)) rest in
        and_from (not (has_text n names)) (distinct names) (ap not here) (more rest)
