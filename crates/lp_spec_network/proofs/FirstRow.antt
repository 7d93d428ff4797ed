-- The first row that passes a test.
use Rattle.std.proofs.Common.{◌≡◌, ◌⊎◌, ℕ, zero, suc, ◌+◌, ◌<◌, Bool, true, false, List, [], ◌∷◌, Option, Some, None, inl, inr, refl, sym, ap, ◌∙◌, subst, arith}
use Rattle.std.specs.Prelude.{map, slice_get, if◌then◌else◌}
use Rattle.std.specs.Option.{option_map}
use Rattle.std.proofs.lemmas.Bool.{false≢true}
use Rattle.lp_model.specs.declared.intent.RowState.{RowState}
use Rattle.lp_model.specs.declared.supply.Row.{Row}
use Rattle.lp_model.specs.declared.supply.Supplies.{Supplies}
use Rattle.lp_rows.specs.Rows.{row_among, IsFirstRow}
use Rattle.lp_spec_design.specs.Domains.{first_number}
use Rattle.lp_spec_network.specs.Views.{first_among, first_row}

abbrev states_of : Row → List RowState
states_of r = r.states

module _ (p : List RowState → Bool) where
  -- what stands at the first number, and that nothing before it passes
  Numbered : ℕ → ℕ → List Row → Type 0
  Numbered k n xs = (i : ℕ) × (r : Row) × (n ≡ i + k) × (slice_get xs i ≡ Some r) × (p r.states ≡ true) × ((j : ℕ) (o : Row) → j < i → slice_get xs j ≡ Some o → p o.states ≡ false)

  found : (k n : ℕ) (xs : List Row) → first_number p k (map states_of xs) ≡ Some n → Numbered k n xs
  unfolding Numbered
  found k n [] e = absurd cc
  found k n (x ∷ xs) e = by (p x.states) refl (found (k + 1) n xs)
    where
      here : p x.states ≡ true → n ≡ k → Numbered k n (x ∷ xs)
      here f is = (zero, x, omega (arith, is), refl, f, λ j o less. absurd (omega (arith, less)))

      behind : p x.states ≡ false → Numbered (k + 1) n xs → Numbered k n (x ∷ xs)
      behind f h = (suc h.0, h.1, omega (arith, h.2), h.3, h.4, before)
        where
          before : (j : ℕ) (o : Row) → j < suc h.0 → slice_get (x ∷ xs) j ≡ Some o → p o.states ≡ false
          before zero o less at = let is : x ≡ o = cc in ap (λ (r : Row). p r.states) (sym is) ∙ f
          before (suc j) o less at = h.5 j o (omega (arith, less)) at

      by : (b : Bool) → p x.states ≡ b → (first_number p (k + 1) (map states_of xs) ≡ Some n → Numbered (k + 1) n xs) → Numbered k n (x ∷ xs)
      by true f more = let at : Some k ≡ Some n = rw f at e in let is : k ≡ n = cc in here f (sym is)
      by false f more = let rest : first_number p (k + 1) (map states_of xs) ≡ Some n = rw f at e in behind f (more rest)

  missing : (k : ℕ) (xs : List Row) → first_number p k (map states_of xs) ≡ None → (j : ℕ) (o : Row) → slice_get xs j ≡ Some o → p o.states ≡ false
  missing k [] e j o at = absurd cc
  missing k (x ∷ xs) e j o at = by (p x.states) refl (missing (k + 1) xs) j at
    where
      by : (b : Bool) → p x.states ≡ b → (first_number p (k + 1) (map states_of xs) ≡ None → (i : ℕ) (r : Row) → slice_get xs i ≡ Some r → p r.states ≡ false) → (j : ℕ) → slice_get (x ∷ xs) j ≡ Some o → p o.states ≡ false
      by true f more j at = let no : Some k ≡ None = rw f at e in absurd cc
      by false f more zero at = let is : x ≡ o = cc in ap (λ (r : Row). p r.states) (sym is) ∙ f
      by false f more (suc j) at = let rest : first_number p (k + 1) (map states_of xs) ≡ None = rw f at e in more rest j o at

  -- a listed row by its number
  row-at : (xs : List Row) (n : ℕ) (row : List RowState) → option_map states_of (slice_get xs n) ≡ Some row → (r : Row) × (slice_get xs n ≡ Some r) × (r.states ≡ row)
  row-at xs n row e = by (slice_get xs n) refl e
    where
      by : (o : Option Row) → slice_get xs n ≡ o → option_map states_of o ≡ Some row → (r : Row) × (slice_get xs n ≡ Some r) × (r.states ≡ row)
      by None at f = absurd cc
      by (Some r) at f = let is : r.states ≡ row = cc in (r, at, is)

  abbrev IsFirstAmong : List Row → Option ℕ → Type 0
  IsFirstAmong rows None = (n : ℕ) (row : List RowState) → row_among rows n ≡ Some row → p row ≡ true → ⊥
  IsFirstAmong rows (Some n) = (row : List RowState) × (row_among rows n ≡ Some row) × (p row ≡ true) × ((m : ℕ) (other : List RowState) → m < n → row_among rows m ≡ Some other → p other ≡ true → ⊥)

  listed-some : (r : Row) (rows : List Row) (n : ℕ) → first_number p 1 (map states_of (r ∷ rows)) ≡ Some n → IsFirstAmong (r ∷ rows) (Some n)
  unfolding Numbered
  listed-some r rows n e =
      let h = found 1 n (r ∷ rows) e in
      let at : n ≡ suc h.0 = omega (arith, h.2) in
      (h.1.states, ap (row_among (r ∷ rows)) at ∙ ap (option_map states_of) h.3, h.4, λ m other less there f. before h.0 (h.5) m other (subst (λ x. m < x) at less) there f)
    where
      before : (i : ℕ) → ((j : ℕ) (o : Row) → j < i → slice_get (r ∷ rows) j ≡ Some o → p o.states ≡ false) → (m : ℕ) (other : List RowState) → m < suc i → row_among (r ∷ rows) m ≡ Some other → p other ≡ true → ⊥
      before i none zero other less there f = absurd cc
      before i none (suc m) other less there f =
          let row = row-at (r ∷ rows) m other there in
          false≢true (sym (none m row.0 (omega (arith, less)) row.1) ∙ ap p row.2 ∙ f)

  listed-none : (r : Row) (rows : List Row) → first_number p 1 (map states_of (r ∷ rows)) ≡ None → IsFirstAmong (r ∷ rows) None
  listed-none r rows e zero row there f = absurd cc
  listed-none r rows e (suc n) row there f = let at = row-at (r ∷ rows) n row there in false≢true (sym (missing 1 (r ∷ rows) e n at.0 at.1) ∙ ap p at.2 ∙ f)

  free-none : p [] ≡ false → (n : ℕ) (row : List RowState) → row_among [] n ≡ Some row → p row ≡ true → ⊥
  free-none f zero row there g = let is : [] ≡ row = cc in false≢true (sym f ∙ ap p is ∙ g)
  free-none f (suc n) row there g = absurd cc

  free-row : (b : Bool) → p [] ≡ b → IsFirstAmong [] (if b then Some 0 else None)
  free-row true f = ([], refl, f, λ m other less there g. absurd (omega (arith, less)))
  free-row false f = free-none f

  listed : (r : Row) (rows : List Row) (o : Option ℕ) → first_number p 1 (map states_of (r ∷ rows)) ≡ o → IsFirstAmong (r ∷ rows) o
  listed r rows None e = listed-none r rows e
  listed r rows (Some n) e = listed-some r rows n e

  among : (rows : List Row) → IsFirstAmong rows (first_among p rows)
  among [] = free-row (p []) refl
  among (r ∷ rows) = listed r rows (first_number p 1 (map states_of (r ∷ rows))) refl

  in-network : (s : Supplies) (o : Option ℕ) → IsFirstAmong s.rows o → IsFirstRow s (λ row. p row ≡ true) o
  in-network s None h = h
  in-network s (Some n) h = record { row = h.0; numbered = h.1; holds = h.2; first = h.3 }

-- it is the first row of which the test holds, or none where it holds of none
pub is-first_row : (s : Supplies) (p : List RowState → Bool) → IsFirstRow s (λ row. p row ≡ true) (first_row s p)
is-first_row s p = in-network p s (first_row s p) (among p s.rows)

-- there is only one such number
pub one-first_row : (s : Supplies) (p : List RowState → Bool) (a b : Option ℕ) → IsFirstRow s (λ row. p row ≡ true) a → IsFirstRow s (λ row. p row ≡ true) b → a ≡ b
one-first_row s p None None h g = refl
one-first_row s p None (Some n) h g = absurd (h n g.row g.numbered g.holds)
one-first_row s p (Some n) None h g = absurd (g n h.row h.numbered h.holds)
one-first_row s p (Some n) (Some m) h g = elim (compare n m) [
  | inl less ↦ absurd (g.first n h.row less h.numbered h.holds)
  | inr others ↦ elim others [ inl same ↦ ap (λ k. Some k) same | inr more ↦ absurd (h.first m g.row more g.numbered g.holds) ]
]
  where
    compare : (a b : ℕ) → (a < b) ⊎ ((a ≡ b) ⊎ (b < a))
    compare zero zero = inr (inl refl)
    compare zero (suc b) = inl (omega arith)
    compare (suc a) zero = inr (inr (omega arith))
    compare (suc a) (suc b) = elim (compare a b) [ inl less ↦ inl (omega (arith, less)) | inr others ↦ elim others [ inl same ↦ inr (inl (ap suc same)) | inr more ↦ inr (inr (omega (arith, more))) ] ]
