-- A key that reads none of its own component is on no loop, where no read leads to a higher one.
use Rattle.std.proofs.Common.{◌≡◌, ◌≤◌, ◌<◌, ◌+◌, ◌==◌, ℕ, Bool, true, false, ◌||◌, ◌&&◌, List, [], ◌∷◌, length, inl, inr, refl, sym, ap, ◌∙◌, subst, arith}
use Rattle.std.specs.List.{list_any, list_all, Contains}
use Rattle.std.specs.Prelude.{nat_le}
use Rattle.std.proofs.lemmas.Bool.{cases_lt, true≢false, eq-eqb, leb-true}
use Rattle.lp_order.specs.Order.{row_of, Reads, Reaches, one_read, more_reads}
use Rattle.lp_order.proofs.OrderLaws.{Reads-within, Reaches-first, Contains-cons_cases}
use Rattle.lp_loops.specs.Loops.{component_of, NeverRises, stays}

-- what a key leads to has no higher component
never_higher : (graph : List (List ℕ)) (components : List ℕ) → NeverRises graph components → (a b : ℕ) → Reaches graph a b → component_of components b ≤ component_of components a
never_higher graph components low a b (one_read r) = low a b r
never_higher graph components low a c (more_reads {b = b} r t) = omega (arith, low a b r, never_higher graph components low b c t)

in_any : (p : ℕ → Bool) (row : List ℕ) (b : ℕ) → Contains row b → p b ≡ true → list_any p row ≡ true
in_any p [] b c e = absurd (omega (arith, c.1))
in_any p (x ∷ row) b c e =
    elim (Contains-cons_cases x row b c) [
      | inl is ↦ ap (λ v. v || list_any p row) (ap p is ∙ e)
      | inr there ↦ by (p x) (in_any p row b there e)
    ]
  where
    by : (v : Bool) → list_any p row ≡ true → (v || list_any p row) ≡ true
    by true rest = refl
    by false rest = rest

pub no_loop_below : (graph : List (List ℕ)) (components : List ℕ) (key : ℕ) → NeverRises graph components → stays graph components key ≡ false → Reaches graph key key → ⊥
no_loop_below graph components key low e r =
    let first = Reaches-first graph key key r in
    let b : ℕ = first.0 in
    let down : component_of components b ≤ component_of components key = low key b first.1 in
    let up : component_of components key ≤ component_of components b = elim first.2 [ inl is ↦ subst (λ x. component_of components key ≤ component_of components x) (sym is) (omega arith) | inr t ↦ never_higher graph components low b key t ] in
    let same : component_of components b ≡ component_of components key = omega (arith, down, up) in
    true≢false (sym (in_any (λ x. component_of components x == component_of components key) (row_of graph key) b first.1 (eq-eqb (component_of components b) (component_of components key) same)) ∙ e)

-- ---- what is judged row by row

-- the reads of the first keys
abbrev pub RisesNot : List (List ℕ) → List ℕ → ℕ → Type 0
RisesNot graph components n = (a b : ℕ) → a < n → Reads graph a b → component_of components b ≤ component_of components a

split : (a b : Bool) → (a && b) ≡ true → (a ≡ true) × (b ≡ true)
split true b e = (refl, e)
split false b e = absurd (true≢false (sym e))

in_row : (components : List ℕ) (highest : ℕ) (row : List ℕ) (b : ℕ) → list_all (λ x. nat_le (component_of components x) highest) row ≡ true → Contains row b → component_of components b ≤ highest
in_row components highest [] b e c = absurd (omega (arith, c.1))
in_row components highest (x ∷ row) b e c =
    let both = split (nat_le (component_of components x) highest) (list_all (λ y. nat_le (component_of components y) highest) row) e in
    elim (Contains-cons_cases x row b c) [
      | inl is ↦ subst (λ y. component_of components y ≤ highest) is (leb-true (component_of components x) highest both.0)
      | inr there ↦ in_row components highest row b both.1 there
    ]

pub one_more : (graph : List (List ℕ)) (components : List ℕ) (n highest : ℕ) (row : List ℕ) → row ≡ row_of graph n → highest ≡ component_of components n → list_all (λ x. nat_le (component_of components x) highest) row ≡ true → RisesNot graph components n → RisesNot graph components (n + 1)
one_more graph components n highest row is same e before a b h r =
    elim (cases_lt a n) [
      | inl low ↦ before a b low r
      | inr high ↦
          let last : a ≡ n = omega (arith, h, high) in
          let here : Contains row b = subst (λ ks. Contains ks b) (sym is) (subst (λ x. Reads graph x b) last r) in
          subst (λ x. component_of components b ≤ component_of components x) (sym last) (subst (λ x. component_of components b ≤ x) same (in_row components highest row b e here))
    ]

pub all_keys : (graph : List (List ℕ)) (components : List ℕ) (n : ℕ) → length graph ≤ n → RisesNot graph components n → NeverRises graph components
all_keys graph components n all before a b r = before a b (omega (arith, all, Reads-within graph a b r)) r
