-- Where no origin comes from itself, the way back from each ends at a port within as many steps as there are origins.
use Rattle.std.proofs.Common.{◌≡◌, ◌≤◌, ◌<◌, ℕ, zero, suc, ◌+◌, ◌-◌, ◌==◌, Bool, true, false, ◌||◌, List, [], ◌∷◌, length, Option, Some, None, inl, inr, refl, sym, ap, ◌∙◌, subst, arith}
use Rattle.std.specs.List.{list_any}
use Rattle.std.specs.Option.{option_map_or}
use Rattle.std.proofs.lemmas.Bool.{true≢false, cases_Bool, eqb-true, eq-eqb}
use Rattle.lp_spec_design.specs.Netlists.{upward}
use Rattle.lp_spec_design.specs.Winners.{IsIn}
use Rattle.lp_spec_design.proofs.Members.{IsApart, no-longer, any-in, of-any}

module _ (next : ℕ → Option ℕ) where
  -- so many steps lead from a number to the target
  abbrev pub comes : ℕ → ℕ → ℕ → Bool
  comes zero target o = false
  comes (suc steps) target o = option_map_or (λ i. (i == target) || comes steps target i) (next o) false

  -- the way ends before so many steps
  abbrev pub stops : ℕ → ℕ → Bool
  stops zero o = false
  stops (suc steps) o = option_map_or (stops steps) (next o) true

  right-true : (a b : Bool) → b ≡ true → (a || b) ≡ true
  right-true true b e = refl
  right-true false b e = e

  left-true : (a b : Bool) → a ≡ true → (a || b) ≡ true
  left-true true b e = refl
  left-true false b e = absurd (true≢false (sym e))

  step : (k t o i : ℕ) → next o ≡ Some i → comes k t i ≡ true → comes (suc k) t o ≡ true
  step k t o i e f = ap (λ q. option_map_or (λ j. (j == t) || comes k t j) q false) e ∙ right-true (i == t) (comes k t i) f

  here : (k t o : ℕ) → next o ≡ Some t → comes (suc k) t o ≡ true
  here k t o e = ap (λ q. option_map_or (λ j. (j == t) || comes k t j) q false) e ∙ left-true (t == t) (comes k t t) (eq-eqb t t refl)

  more : (k t o : ℕ) → comes k t o ≡ true → comes (suc k) t o ≡ true
  more zero t o e = absurd (true≢false (sym e))
  more (suc k) t o e = by (next o) refl e (λ i g. more k t i g)
    where
      either : (b : Bool) (i : ℕ) → (i == t) ≡ b → (comes k t i ≡ true → comes (suc k) t i ≡ true) → (b || comes k t i) ≡ true → ((i == t) || comes (suc k) t i) ≡ true
      either true i h on g = left-true (i == t) (comes (suc k) t i) h
      either false i h on g = right-true (i == t) (comes (suc k) t i) (on g)

      by : (q : Option ℕ) → next o ≡ q → option_map_or (λ j. (j == t) || comes k t j) q false ≡ true
          → ((i : ℕ) → comes k t i ≡ true → comes (suc k) t i ≡ true) → comes (suc (suc k)) t o ≡ true
      by None f g on = absurd (true≢false (sym g))
      by (Some i) f g on = ap (λ q. option_map_or (λ j. (j == t) || comes (suc k) t j) q false) f ∙ either (i == t) i refl (on i) g

  much-more : (j k t o : ℕ) → comes k t o ≡ true → comes (j + k) t o ≡ true
  much-more zero k t o e = let same : k ≡ 0 + k = omega arith in subst (λ n. comes n t o ≡ true) same e
  much-more (suc j) k t o e = let same : suc (j + k) ≡ suc j + k = omega arith in subst (λ n. comes n t o ≡ true) same (more (j + k) t o (much-more j k t o e))

  -- each number of a list leads to the one before it
  abbrev Follows : ℕ → List ℕ → Type 0
  Follows c [] = Unit {0}
  Follows c (d ∷ rest) = (next d ≡ Some c) × Follows d rest

  walk : (t c : ℕ) (rest : List ℕ) (k : ℕ) → Follows c rest → comes k t c ≡ true → (x : ℕ) → IsIn x (c ∷ rest) → (j : ℕ) × (j ≤ k + length rest) × (comes j t x ≡ true)
  walk t c rest k f h x (inl is) = (k, omega arith, ap (comes k t) is ∙ h)
  walk t c [] k f h x (inr i) = absurd i
  walk t c (d ∷ rest) k f h x (inr i) =
      let found = walk t d rest (suc k) f.1 (step k t d c f.0 h) x i in
      (found.0, omega (arith, found.1), found.2)

  module _ (n : ℕ) (inside : (o i : ℕ) → next o ≡ Some i → i < n) (no_loop : (o : ℕ) → o < n → comes n o o ≡ false) where
    in-upward : (k from o : ℕ) → from ≤ o → o < k + from → IsIn o (upward k from)
    in-upward zero from o a b = absurd (omega (arith, a, b))
    in-upward (suc k) from o a b = elim (cases_Bool (o == from)) [
      | inl e ↦ inl (eqb-true o from e)
      | inr e ↦ inr (in-upward k (from + 1) o (later (o == from) e refl) (omega (arith, b)))
    ]
      where
        later : (t : Bool) → (o == from) ≡ false → (o == from) ≡ t → from + 1 ≤ o
        later t e f =
            let other : o ≡ from → ⊥ = λ g. true≢false (sym (ap (λ z. z == from) g ∙ eq-eqb from from refl) ∙ e) in
            omega (arith, a, other)

    upward-length : (k from : ℕ) → length (upward k from) ≡ k
    upward-length zero from = refl
    upward-length (suc k) from = let rest = upward-length k (from + 1) in omega (arith, rest)

    few : (xs : List ℕ) → IsApart xs → ((x : ℕ) → IsIn x xs → x < n) → length xs ≤ n
    few xs apart all =
        let size = no-longer xs (upward n 0) apart (λ x i. let less = all x i in in-upward n 0 x (omega arith) (omega (arith, less))) in
        let count = upward-length n 0 in
        omega (arith, size, count)

    not-back : (i j : ℕ) → j ≤ n → comes j i i ≡ true → i < n → ⊥
    not-back i j less is small =
        let room : (n - j) + j ≡ n = omega (arith, less) in
        true≢false (sym (subst (λ k. comes k i i ≡ true) room (much-more (n - j) j i i is)) ∙ no_loop i small)

    abbrev EndsFrom : ℕ → Type 0
    EndsFrom steps = (o : ℕ) (seen : List ℕ) → Follows o seen → IsApart (o ∷ seen) → ((x : ℕ) → IsIn x (o ∷ seen) → x < n) → n ≤ length seen + steps → stops steps o ≡ true

    further : (steps o i : ℕ) (seen : List ℕ) → EndsFrom steps → Follows o seen → IsApart (o ∷ seen) → ((x : ℕ) → IsIn x (o ∷ seen) → x < n) → n ≤ length seen + suc steps → next o ≡ Some i → stops steps i ≡ true
    further steps o i seen on f apart all size e = elim (cases_Bool (list_any (λ j. j == i) (o ∷ seen))) [
      | inl h ↦
          let found = of-any (λ j. j == i) (o ∷ seen) h in
          let member : IsIn i (o ∷ seen) = subst (λ j. IsIn j (o ∷ seen)) (eqb-true found.0 i found.2) found.1 in
          let back = walk i o seen 1 f (here 0 i o e) i member in
          let room = few (o ∷ seen) apart all in
          absurd (not-back i back.0 (omega (arith, back.1, room)) back.2 (inside o i e))
      | inr out ↦
          on i (o ∷ seen) (e, f)
          ((λ h. true≢false (sym (any-in (λ j. j == i) i (o ∷ seen) h (eq-eqb i i refl)) ∙ out)), apart)
          (λ x h. elim h [ inl is ↦ subst (λ y. y < n) (sym is) (inside o i e) | inr rest ↦ all x rest ])
          (omega (arith, size))
    ]

    ends : (steps : ℕ) → EndsFrom steps
    ends zero o seen f apart all size = let room = few (o ∷ seen) apart all in absurd (omega (arith, size, room))
    ends (suc steps) o seen f apart all size = by (next o) refl (λ i e. further steps o i seen (ends steps) f apart all size e)
      where
        by : (q : Option ℕ) → next o ≡ q → ((i : ℕ) → next o ≡ Some i → stops steps i ≡ true) → option_map_or (stops steps) q true ≡ true
        by None e on = refl
        by (Some i) e on = on i e

    -- from each number the way ends
    pub all-end : (o : ℕ) → o < n → stops n o ≡ true
    all-end o small = ends n o [] tt ((λ h. h), tt) (λ x h. elim h [ inl is ↦ subst (λ y. y < n) (sym is) small | inr rest ↦ absurd rest ]) (omega arith)
