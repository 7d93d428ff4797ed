-- What commands made goes up by their numbers, and has of each command what it made.
use Rattle.std.proofs.Common.{◌≡◌, ◌⊎◌, ℕ, zero, suc, ◌+◌, ◌==◌, ◌<◌, ◌≤◌, Bool, true, false, List, [], ◌∷◌, ◌++◌, inl, inr, refl, sym, subst, ap, ◌∙◌, cond, arith}
use Rattle.std.specs.Prelude.{nat_le, flat_map}
use Rattle.std.specs.List.{list_all}
use Rattle.std.proofs.lemmas.Bool.{and_parts, and_from, cases_lt, eqb-true, eq-eqb, ne_eqb, leb-true, le-leb, false≢true}
use Rattle.std.proofs.lemmas.List.{append-nil}
use Rattle.std.proofs.lemmas.List.Elements.{filter-append}
use Rattle.std.proofs.lemmas.List.Folds.{list_all-append}
use Rattle.std.proofs.Math.Nat.{le-max_left, le-max_right}
use Rattle.lp_spec_design.specs.Netlists.{upward}
use Rattle.lp_spec_faults.specs.Order.{numbers_below, of_command, by_commands, goes_up}

module _ {A : Type 0} where
  -- what this many commands made, from one on
  abbrev made : List (ℕ × A) → ℕ → ℕ → List (ℕ × A)
  made all n from = flat_map (of_command all) (upward n from)

  -- ---- numbers

  least_of : (all : List (ℕ × A)) (m k : ℕ) → m ≤ k → list_all (λ y. nat_le m y.0) (of_command all k) ≡ true
  least_of [] m k h = refl
  least_of (x ∷ xs) m k h = by (x.0 == k) refl (least_of xs m k h)
    where
      by : (b : Bool) → (x.0 == k) ≡ b → list_all (λ y. nat_le m y.0) (of_command xs k) ≡ true → list_all (λ y. nat_le m y.0) (cond b (x ∷ of_command xs k) (of_command xs k)) ≡ true
      by true e more =
          let same : x.0 ≡ k = eqb-true x.0 k e in
          and_from (nat_le m x.0) (list_all (λ y. nat_le m y.0) (of_command xs k)) (le-leb m x.0 (omega arith)) more
      by false e more = more

  least_made : (all : List (ℕ × A)) (m n from : ℕ) → m ≤ from → list_all (λ y. nat_le m y.0) (made all n from) ≡ true
  least_made all m zero from h = refl
  least_made all m (suc n) from h =
      list_all-append (λ y. nat_le m y.0) (of_command all from) (made all n (from + 1))
      ∙ and_from (list_all (λ y. nat_le m y.0) (of_command all from)) (list_all (λ y. nat_le m y.0) (made all n (from + 1))) (least_of all m from h) (least_made all m n (from + 1) (omega arith))

  -- before a list that goes up, and in which all is at least their number, what a command made goes up
  up_before : (all ys : List (ℕ × A)) (k : ℕ) → goes_up ys ≡ true → list_all (λ y. nat_le k y.0) ys ≡ true → goes_up (of_command all k ++ ys) ≡ true
  up_before [] ys k h g = h
  up_before (x ∷ xs) ys k h g = by (x.0 == k) refl (up_before xs ys k h g)
    where
      by : (b : Bool) → (x.0 == k) ≡ b → goes_up (of_command xs k ++ ys) ≡ true → goes_up (cond b (x ∷ of_command xs k) (of_command xs k) ++ ys) ≡ true
      by true e more =
          let same : x.0 ≡ k = eqb-true x.0 k e in
          let behind : list_all (λ y. nat_le x.0 y.0) ys ≡ true = ap (λ m. list_all (λ y. nat_le m y.0) ys) same ∙ g in
          let all : list_all (λ y. nat_le x.0 y.0) (of_command xs k ++ ys) ≡ true =
          list_all-append (λ y. nat_le x.0 y.0) (of_command xs k) ys
          ∙ and_from (list_all (λ y. nat_le x.0 y.0) (of_command xs k)) (list_all (λ y. nat_le x.0 y.0) ys) (least_of xs x.0 k (omega arith)) behind in
          and_from (list_all (λ y. nat_le x.0 y.0) (of_command xs k ++ ys)) (goes_up (of_command xs k ++ ys)) all more
      by false e more = more

  made_up : (all : List (ℕ × A)) (n from : ℕ) → goes_up (made all n from) ≡ true
  made_up all zero from = refl
  made_up all (suc n) from = up_before all (made all n (from + 1)) from (made_up all n (from + 1)) (least_made all from n (from + 1) (omega arith))

  pub commands_up : (all : List (ℕ × A)) → goes_up (by_commands all) ≡ true
  commands_up all = made_up all (numbers_below all) 0

  -- ---- what one command made

  of_same : (all : List (ℕ × A)) (k : ℕ) → of_command (of_command all k) k ≡ of_command all k
  of_same [] k = refl
  of_same (x ∷ xs) k = by (x.0 == k) refl (of_same xs k)
    where
      by : (b : Bool) → (x.0 == k) ≡ b → of_command (of_command xs k) k ≡ of_command xs k → of_command (cond b (x ∷ of_command xs k) (of_command xs k)) k ≡ cond b (x ∷ of_command xs k) (of_command xs k)
      by true e more = ap (λ b. cond b (x ∷ of_command (of_command xs k) k) (of_command (of_command xs k) k)) e ∙ ap (λ ys. x ∷ ys) more
      by false e more = more

  of_other : (all : List (ℕ × A)) (j k : ℕ) → (j ≡ k → ⊥) → of_command (of_command all j) k ≡ []
  of_other [] j k h = refl
  of_other (x ∷ xs) j k h = by (x.0 == j) refl (of_other xs j k h)
    where
      by : (b : Bool) → (x.0 == j) ≡ b → of_command (of_command xs j) k ≡ [] → of_command (cond b (x ∷ of_command xs j) (of_command xs j)) k ≡ []
      by true e more =
          let same : x.0 ≡ j = eqb-true x.0 j e in
          let none : (x.0 == k) ≡ false = ne_eqb x.0 k (λ is. h (sym same ∙ is)) in
          ap (λ b. cond b (x ∷ of_command (of_command xs j) k) (of_command (of_command xs j) k)) none ∙ more
      by false e more = more

  -- none of these commands is the one
  of_none : (all : List (ℕ × A)) (n from k : ℕ) → (k < from) ⊎ (from + n ≤ k) → of_command (made all n from) k ≡ []
  of_none all zero from k h = refl
  of_none all (suc n) from k h =
      let other : from ≡ k → ⊥ = λ is. elim h [ inl low ↦ omega arith | inr high ↦ omega arith ] in
      let rest : (k < from + 1) ⊎ (from + 1 + n ≤ k) = elim h [ inl low ↦ inl (omega arith) | inr high ↦ inr (omega arith) ] in
      filter-append (λ x. x.0 == k) (of_command all from) (made all n (from + 1))
      ∙ ap (λ ys. ys ++ of_command (made all n (from + 1)) k) (of_other all from k other)
      ∙ of_none all n (from + 1) k rest

  of_made : (all : List (ℕ × A)) (n from k : ℕ) → from ≤ k → k < from + n → of_command (made all n from) k ≡ of_command all k
  of_made all zero from k low high = absurd (omega arith)
  of_made all (suc n) from k low high =
      let parts : of_command (made all (suc n) from) k ≡ of_command (of_command all from) k ++ of_command (made all n (from + 1)) k = filter-append (λ x. x.0 == k) (of_command all from) (made all n (from + 1)) in
      elim (cases_lt from k) [
        | inl later ↦
            parts
            ∙ ap (λ ys. ys ++ of_command (made all n (from + 1)) k) (of_other all from k (λ is. omega arith))
            ∙ of_made all n (from + 1) k (omega arith) (omega arith)
        | inr not_later ↦
            let same : from ≡ k = omega arith in
            parts
            ∙ ap (λ ys. of_command (of_command all from) k ++ ys) (of_none all n (from + 1) k (inl (omega arith)))
            ∙ append-nil (of_command (of_command all from) k)
            ∙ ap (λ j. of_command (of_command all j) k) same
            ∙ of_same all k
      ]

  beyond : (all : List (ℕ × A)) (k : ℕ) → numbers_below all ≤ k → of_command all k ≡ []
  beyond [] k h = refl
  beyond (x ∷ xs) k h =
      let one = le-max_left (x.0 + 1) (numbers_below xs) in
      let rest = le-max_right (x.0 + 1) (numbers_below xs) in
      let none : (x.0 == k) ≡ false = ne_eqb x.0 k (λ is. omega arith) in
      ap (λ b. cond b (x ∷ of_command xs k) (of_command xs k)) none ∙ beyond xs k (omega arith)

  pub commands_same : (all : List (ℕ × A)) (k : ℕ) → of_command (by_commands all) k ≡ of_command all k
  commands_same all k = elim (cases_lt k (numbers_below all)) [
    | inl below ↦ of_made all (numbers_below all) 0 k (omega arith) (omega arith)
    | inr past ↦ of_none all (numbers_below all) 0 k (inr (omega arith)) ∙ sym (beyond all k past)
  ]

  -- ---- no other list goes up and has of each command what it made

  here : (x : ℕ × A) (xs : List (ℕ × A)) (k : ℕ) → x.0 ≡ k → of_command (x ∷ xs) k ≡ x ∷ of_command xs k
  here x xs k is = ap (λ b. cond b (x ∷ of_command xs k) (of_command xs k)) (eq-eqb x.0 k is)

  passed : (x : ℕ × A) (xs : List (ℕ × A)) (k : ℕ) → (x.0 ≡ k → ⊥) → of_command (x ∷ xs) k ≡ of_command xs k
  passed x xs k other = ap (λ b. cond b (x ∷ of_command xs k) (of_command xs k)) (ne_eqb x.0 k other)

  not_below : (xs : List (ℕ × A)) (m k : ℕ) → list_all (λ y. nat_le m y.0) xs ≡ true → k < m → of_command xs k ≡ []
  not_below [] m k h low = refl
  not_below (x ∷ xs) m k h low =
      let parts = and_parts (nat_le m x.0) (list_all (λ y. nat_le m y.0) xs) h in
      let least : m ≤ x.0 = leb-true m x.0 parts.0 in
      passed x xs k (λ is. omega arith) ∙ not_below xs m k parts.1 low

  -- a list that goes up does not have a command before its first
  no_earlier : (y : ℕ × A) (ys : List (ℕ × A)) (k : ℕ) → goes_up (y ∷ ys) ≡ true → k < y.0 → of_command (y ∷ ys) k ≡ []
  no_earlier y ys k up low =
      let parts = and_parts (list_all (λ z. nat_le y.0 z.0) ys) (goes_up ys) up in
      passed y ys k (λ is. omega arith) ∙ not_below ys y.0 k parts.0 low

  behind_up : (y : ℕ × A) (ys : List (ℕ × A)) → goes_up (y ∷ ys) ≡ true → goes_up ys ≡ true
  behind_up y ys up = (and_parts (list_all (λ z. nat_le y.0 z.0) ys) (goes_up ys) up).1

  no_head : (x : ℕ × A) (xs : List (ℕ × A)) → x ∷ xs ≡ [] → ⊥
  no_head x xs e = cc

  same_lists : (xs ys : List (ℕ × A)) → goes_up xs ≡ true → goes_up ys ≡ true → ((k : ℕ) → of_command xs k ≡ of_command ys k) → xs ≡ ys
  same_lists [] [] f g h = refl
  same_lists [] (y ∷ ys) f g h = absurd (no_head y (of_command ys y.0) (sym (h y.0 ∙ here y ys y.0 refl)))
  same_lists (x ∷ xs) [] f g h = absurd (no_head x (of_command xs x.0) (sym (here x xs x.0 refl) ∙ h x.0))
  same_lists (x ∷ xs) (y ∷ ys) f g h = elim (cases_lt x.0 y.0) [
    | inl low ↦ absurd (no_head x (of_command xs x.0) (sym (here x xs x.0 refl) ∙ h x.0 ∙ no_earlier y ys x.0 g low))
    | inr not_low ↦ elim (cases_lt y.0 x.0) [
      | inl high ↦ absurd (no_head y (of_command ys y.0) (sym (here y ys y.0 refl) ∙ sym (h y.0) ∙ no_earlier x xs y.0 f high))
      | inr not_high ↦ both (omega arith) (λ rest. same_lists xs ys (behind_up x xs f) (behind_up y ys g) rest)
    ]
  ]
    where
      both : x.0 ≡ y.0 → (((k : ℕ) → of_command xs k ≡ of_command ys k) → xs ≡ ys) → x ∷ xs ≡ y ∷ ys
      both is more =
          let parts : x ∷ of_command xs x.0 ≡ y ∷ of_command ys x.0 = sym (here x xs x.0 refl) ∙ h x.0 ∙ here y ys x.0 (sym is) in
          let first : x ≡ y = cc in
          let behind : of_command xs x.0 ≡ of_command ys x.0 = cc in
          let rest = more (λ k. at k (x.0 == k) refl behind) in
          cc
        where
          at : (k : ℕ) (b : Bool) → (x.0 == k) ≡ b → of_command xs x.0 ≡ of_command ys x.0 → of_command xs k ≡ of_command ys k
          at k true e behind = let here : x.0 ≡ k = eqb-true x.0 k e in subst (λ j. of_command xs j ≡ of_command ys j) here behind
          at k false e behind =
              let other : x.0 ≡ k → ⊥ = λ same. false≢true (sym e ∙ eq-eqb x.0 k same) in
              sym (passed x xs k other) ∙ h k ∙ passed y ys k (λ same. other (is ∙ same))

  pub commands_only : (all ys : List (ℕ × A)) → goes_up ys ≡ true → ((k : ℕ) → of_command ys k ≡ of_command all k) → ys ≡ by_commands all
  commands_only all ys up same = same_lists ys (by_commands all) up (commands_up all) (λ k. same k ∙ sym (commands_same all k))
