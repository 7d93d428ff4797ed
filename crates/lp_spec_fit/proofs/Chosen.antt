-- What a choice among cells is, and that there is one where a cell fits.
use Rattle.std.proofs.Common.{◌≡◌, ◌⊎◌, ℕ, zero, suc, ◌+◌, ◌≤◌, ◌<◌, Bool, true, false, not, ◌&&◌, ◌||◌, List, [], ◌∷◌, Some, None, inl, inr, refl, sym, ap, ◌∙◌, subst, arith}
use Rattle.std.specs.Prelude.{nat_le, slice_get}
use Rattle.std.specs.List.{list_any, list_all}
use Rattle.std.proofs.lemmas.Bool.{false≢true, and_parts, or_cases, or_right, leb-true, le-leb}
use Rattle.std.proofs.lemmas.Bool.Decides.{leb_tells}
use Rattle.lp_model.specs.LibraryView.{CellView}
use Rattle.lp_spec_design.specs.Winners.{IsIn}
use Rattle.lp_spec_design.specs.Domains.{first_number}
use Rattle.lp_spec_fit.specs.Choice.{is_least, choice, IsChoice}

all-in : (p : CellView → Bool) (xs : List CellView) (d : CellView) → list_all p xs ≡ true → IsIn d xs → p d ≡ true
all-in p [] d e h = absurd h
all-in p (x ∷ xs) d e h = elim h [ inl is ↦ ap p is ∙ (and_parts (p x) (list_all p xs) e).0 | inr rest ↦ all-in p xs d (and_parts (p x) (list_all p xs) e).1 rest ]

both-true : (a b : Bool) → a ≡ true → b ≡ true → (a && b) ≡ true
both-true a b e f = ap (λ x. x && b) e ∙ f

in-all : (p : CellView → Bool) (xs : List CellView) → ((d : CellView) → IsIn d xs → p d ≡ true) → list_all p xs ≡ true
in-all p [] h = refl
in-all p (x ∷ xs) h = both-true (p x) (list_all p xs) (h x (inl refl)) (in-all p xs (λ d m. h d (inr m)))

module _ (fits : CellView → Bool) where
  -- no cell of the list that fits has less area
  abbrev Least : List CellView → CellView → Type 0
  Least xs c = (d : CellView) → IsIn d xs → fits d ≡ true → c.area ≤ d.area

  fits-least : (xs : List CellView) (c : CellView) → is_least fits xs c ≡ true → fits c ≡ true
  fits-least xs c e = (and_parts (fits c) (list_all (λ (d : CellView). not (fits d) || nat_le c.area d.area) xs) e).0

  least-area : (xs : List CellView) (c : CellView) → is_least fits xs c ≡ true → Least xs c
  least-area xs c e d m f =
      let all = (and_parts (fits c) (list_all (λ (d : CellView). not (fits d) || nat_le c.area d.area) xs) e).1 in
      elim (or_cases (not (fits d)) (nat_le c.area d.area) (all-in (λ (d : CellView). not (fits d) || nat_le c.area d.area) xs d all m)) [
        | inl h ↦ absurd (false≢true (sym (ap not f) ∙ h))
        | inr h ↦ leb-true c.area d.area h
      ]

  is-least : (xs : List CellView) (c : CellView) → fits c ≡ true → Least xs c → is_least fits xs c ≡ true
  is-least xs c f least =
      both-true (fits c) (list_all (λ (d : CellView). not (fits d) || nat_le c.area d.area) xs) f
      (in-all (λ (d : CellView). not (fits d) || nat_le c.area d.area) xs (λ d m. by d m (fits d) refl))
    where
      by : (d : CellView) → IsIn d xs → (b : Bool) → fits d ≡ b → (not (fits d) || nat_le c.area d.area) ≡ true
      by d m false e = ap (λ b. not b || nat_le c.area d.area) e
      by d m true e = or_right (not (fits d)) (nat_le c.area d.area) (le-leb c.area d.area (least d m e))

  any-from : (ys : List CellView) (y : CellView) → IsIn y ys → fits y ≡ true → list_any fits ys ≡ true
  any-from [] y m g = absurd m
  any-from (z ∷ ys) y m g = elim m [ inl is ↦ ap (λ b. b || list_any fits ys) (ap fits (sym is) ∙ g) | inr rest ↦ or_right (fits z) (list_any fits ys) (any-from ys y rest g) ]

  FindsLeast : List CellView → Type 0
  FindsLeast xs = (c : CellView) × IsIn c xs × (fits c ≡ true) × Least xs c

  same-area : (x d : CellView) → d ≡ x → x.area ≤ d.area
  same-area x d is = let e : d.area ≡ x.area = ap (λ (y : CellView). y.area) is in omega (arith, e)

  alone : (x : CellView) (xs : List CellView) → fits x ≡ true → list_any fits xs ≡ false → FindsLeast (x ∷ xs)
  unfolding FindsLeast
  alone x xs f none = (x, inl refl, f, λ d m g. elim m [ inl is ↦ same-area x d is | inr rest ↦ absurd (false≢true (sym none ∙ any-from xs d rest g)) ])

  unfit : (x : CellView) (xs : List CellView) → fits x ≡ false → FindsLeast xs → FindsLeast (x ∷ xs)
  unfolding FindsLeast
  unfit x xs f found = (found.0, inr found.1, found.2, λ d m g. elim m [ inl is ↦ absurd (false≢true (sym f ∙ ap fits (sym is) ∙ g)) | inr rest ↦ found.3 d rest g ])

  smaller : (x : CellView) (xs : List CellView) (found : FindsLeast xs) → fits x ≡ true → FindsLeast (x ∷ xs)
  unfolding FindsLeast
  smaller x xs found f = elim (cases_le x.area found.0.area) [
    | inl less ↦ (x, inl refl, f, λ d m g. elim m [ inl is ↦ same-area x d is | inr rest ↦ let low = found.3 d rest g in omega (arith, less, low) ])
    | inr more ↦ (found.0, inr found.1, found.2, λ d m g. elim m [ inl is ↦ (let e = same-area x d is in omega (arith, more, e)) | inr rest ↦ found.3 d rest g ])
  ]
    where
      cases_le : (a b : ℕ) → (a ≤ b) ⊎ (b ≤ a)
      cases_le a b = elim (leb_tells a b) [ inl h ↦ inl h.1 | inr h ↦ inr (omega (arith, h.1)) ]

  -- where a cell fits, one of least area does
  some-least : (xs : List CellView) → list_any fits xs ≡ true → FindsLeast xs
  some-least [] e = absurd (false≢true e)
  some-least (x ∷ xs) e = by (fits x) refl (list_any fits xs) refl (some-least xs)
    where
      by : (b : Bool) → fits x ≡ b → (r : Bool) → list_any fits xs ≡ r → (list_any fits xs ≡ true → FindsLeast xs) → FindsLeast (x ∷ xs)
      by true f false none more = alone x xs f none
      by true f true some more = smaller x xs (more some) f
      by false f true some more = unfit x xs f (more some)
      by false f false none more = absurd (false≢true (sym (ap (λ b. b || list_any fits xs) f ∙ none) ∙ e))

number-none : (p : CellView → Bool) (k : ℕ) (xs : List CellView) (c : CellView) → first_number p k xs ≡ None → IsIn c xs → p c ≡ false
number-none p k [] c e h = absurd h
number-none p k (x ∷ xs) c e h = by (p x) refl (number-none p (k + 1) xs c)
  where
    by : (b : Bool) → p x ≡ b → (first_number p (k + 1) xs ≡ None → IsIn c xs → p c ≡ false) → p c ≡ false
    by true f more = let here : Some k ≡ None = rw f at e in cc
    by false f more = let rest : first_number p (k + 1) xs ≡ None = rw f at e in elim h [ inl is ↦ ap p is ∙ f | inr m ↦ more rest m ]

-- where there is no choice, no cell fits
pub none_fits : (fits : CellView → Bool) (cells : List CellView) → choice fits cells ≡ None → list_any fits cells ≡ false
unfolding FindsLeast
none_fits fits cells e = by (list_any fits cells) refl
  where
    by : (b : Bool) → list_any fits cells ≡ b → b ≡ false
    by false h = refl
    by true h =
        let found = some-least fits cells h in
        absurd (false≢true (sym (number-none (is_least fits cells) 0 cells found.0 e found.1) ∙ is-least fits cells found.0 found.2 found.3))

-- what stands at a number of a list that is counted from another
NumberedFrom : (p : CellView → Bool) (k n : ℕ) (xs : List CellView) → Type 0
NumberedFrom p k n xs = (j : ℕ) × (c : CellView) × (n ≡ j + k) × (slice_get xs j ≡ Some c) × (p c ≡ true) × ((i : ℕ) (d : CellView) → i < j → slice_get xs i ≡ Some d → p d ≡ false)

number-some : (p : CellView → Bool) (k n : ℕ) (xs : List CellView) → first_number p k xs ≡ Some n → NumberedFrom p k n xs
unfolding NumberedFrom
number-some p k n [] e = absurd cc
number-some p k n (x ∷ xs) e = by (p x) refl (number-some p (k + 1) n xs)
  where
    first : p x ≡ true → n ≡ k → NumberedFrom p k n (x ∷ xs)
    first f is = (zero, x, omega (arith, is), refl, f, λ i d less. absurd (omega (arith, less)))

    later : p x ≡ false → NumberedFrom p (k + 1) n xs → NumberedFrom p k n (x ∷ xs)
    later f found = (suc found.0, found.1, omega (arith, found.2), found.3, found.4, before)
      where
        before : (i : ℕ) (d : CellView) → i < suc found.0 → slice_get (x ∷ xs) i ≡ Some d → p d ≡ false
        before zero d less at = let is : x ≡ d = cc in ap p (sym is) ∙ f
        before (suc i) d less at = found.5 i d (omega (arith, less)) at

    by : (b : Bool) → p x ≡ b → (first_number p (k + 1) xs ≡ Some n → NumberedFrom p (k + 1) n xs) → NumberedFrom p k n (x ∷ xs)
    by true f more = let here : Some k ≡ Some n = rw f at e in let is : k ≡ n = cc in first f (sym is)
    by false f more = let rest : first_number p (k + 1) xs ≡ Some n = rw f at e in later f (more rest)

get-in : (xs : List CellView) (i : ℕ) (d : CellView) → slice_get xs i ≡ Some d → IsIn d xs
get-in [] i d e = absurd cc
get-in (x ∷ xs) zero d e = let is : x ≡ d = cc in inl (sym is)
get-in (x ∷ xs) (suc i) d e = inr (get-in xs i d e)

-- an earlier cell that fits is larger than one of least area
larger : (fits : CellView → Bool) (cells : List CellView) (c d : CellView) → is_least fits cells c ≡ true → is_least fits cells d ≡ false → fits d ≡ true → c.area < d.area
larger fits cells c d e not_least f = elim (leb_tells d.area c.area) [
  | inl h ↦ absurd (false≢true (sym not_least ∙ is-least fits cells d f (λ x m g. let low = least-area fits cells c e x m g in let at = h.1 in omega (arith, low, at))))
  | inr h ↦ h.1
]

-- a choice is the first of the cells of least area that fit
pub is_choice : (fits : CellView → Bool) (cells : List CellView) (k : ℕ) → choice fits cells ≡ Some k → IsChoice fits cells k
unfolding NumberedFrom
is_choice fits cells k e =
    let found = number-some (is_least fits cells) 0 k cells e in
    let at : k ≡ found.0 = omega (arith, found.2) in
    record {
      cell = found.1;
      there = ap (slice_get cells) at ∙ found.3;
      is_fit = fits-least fits cells found.1 found.4;
      least = λ j d there f. least-area fits cells found.1 found.4 d (get-in cells j d there) f;
      first = λ j d less there f. larger fits cells found.1 d found.4 (found.5 j d (subst (λ n. j < n) at less) there) f;
    }
