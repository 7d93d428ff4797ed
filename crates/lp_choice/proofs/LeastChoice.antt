-- The best of the areas of cells that fit is the choice.
use Rattle.std.proofs.Common.{◌≡◌, inl, inr, ℕ, ◌+◌, ◌≤◌, ◌<◌, Bool, true, false, not, ◌&&◌, ◌||◌, List, [], ◌∷◌, map, Option, Some, None, refl, sym, ap, subst, ◌∙◌, arith}
use Rattle.std.specs.Prelude.{nat_le, if◌then◌else◌, length, IfSome}
use Rattle.std.specs.List.{list_all}
use Rattle.std.specs.Option.{option_map}
use Rattle.std.proofs.lemmas.Bool.{leb-true, le-leb}
use Rattle.std.proofs.lemmas.Bool.Decides.{leb_tells}
use Rattle.lp_model.specs.LibraryView.{CellView}
use Rattle.lp_spec_design.specs.Domains.{first_number}
use Rattle.lp_spec_fit.specs.Choice.{choice}
use Rattle.lp_choice.specs.declared.least.Best.{Best}
use Rattle.lp_choice.specs.Least.{better, least_from, least_place, area_if}

-- an area is at most that of the best
abbrev within : ℕ → Option Best → Bool
within a None = true
within a (Some b) = nat_le a b.area

le-self : (a : ℕ) → nat_le a a ≡ true
le-self a = le-leb a a (omega arith)

absorbs : (a x b : ℕ) → nat_le x b ≡ true → (nat_le a x && nat_le a b) ≡ nat_le a x
absorbs a x b e = by (nat_le a x) refl
  where
    by : (c : Bool) → nat_le a x ≡ c → (nat_le a x && nat_le a b) ≡ nat_le a x
    by true h =
        let le : nat_le a b ≡ true = le-leb a b (let p = leb-true a x h in let q = leb-true x b e in omega (arith, p, q)) in
        ap (λ c. nat_le a x && c) le ∙ (ap (λ c. c && true) h ∙ sym h)
    by false h = ap (λ c. c && nat_le a b) h ∙ sym h

and-true : (b : Bool) → (b && true) ≡ b
and-true true = refl
and-true false = refl

and-false : (b : Bool) → (b && false) ≡ false
and-false true = refl
and-false false = refl

above : (a x b : ℕ) → b < x → (nat_le a x && nat_le a b) ≡ nat_le a b
above a x b less = by (nat_le a b) refl
  where
    by : (c : Bool) → nat_le a b ≡ c → (nat_le a x && nat_le a b) ≡ nat_le a b
    by true h =
        let le : nat_le a x ≡ true = le-leb a x (let p = leb-true a b h in omega (arith, p, less)) in
        ap (λ c. c && nat_le a b) le
    by false h = ap (λ c. nat_le a x && c) h ∙ (and-false (nat_le a x) ∙ sym h)

module _ (fits : CellView → Bool) where
  abbrev lower : List CellView → ℕ → Bool
  lower xs a = list_all (λ (d : CellView). not (fits d) || nat_le a d.area) xs

  abbrev areas : List CellView → List (Option ℕ)
  areas xs = map (area_if fits) xs

  -- no cell that fits has less area than the best
  lower-is : (k : ℕ) (xs : List CellView) (a : ℕ) → lower xs a ≡ within a (least_from k (areas xs))
  lower-is k [] a = refl
  lower-is k (x ∷ xs) a = by (fits x) (least_from (k + 1) (areas xs)) (lower-is (k + 1) xs a)
    where
      with_area : (best : Option Best) → (nat_le a x.area && within a best) ≡ within a (better k (Some x.area) best)
      with_area None = and-true (nat_le a x.area)
      with_area (Some b) = elim (leb_tells x.area b.area) [
        | inl h ↦ absorbs a x.area b.area h.0 ∙ sym (ap (λ c. within a (if c then Some (record { place = k; area = x.area }) else Some b)) h.0)
        | inr h ↦ above a x.area b.area h.1 ∙ sym (ap (λ c. within a (if c then Some (record { place = k; area = x.area }) else Some b)) h.0)
      ]

      by : (c : Bool) (best : Option Best) → lower xs a ≡ within a best → ((not c || nat_le a x.area) && lower xs a) ≡ within a (better k (if c then Some x.area else None) best)
      by false best e = e
      by true best e = ap (λ c. nat_le a x.area && c) e ∙ with_area best

  -- the first cell that fits and is not larger than the best stands at its place
  abbrev FirstIs : ℕ → List CellView → Option Best → Type 0
  FirstIs k xs best = first_number (λ (c : CellView). fits c && within c.area best) k xs ≡ option_map (λ (b : Best). b.place) best

  first-is : (k : ℕ) (xs : List CellView) → FirstIs k xs (least_from k (areas xs))
  first-is k [] = refl
  first-is k (x ∷ xs) = by (fits x) refl (least_from (k + 1) (areas xs)) (first-is (k + 1) xs)
    where
      here : fits x ≡ true → FirstIs k (x ∷ xs) (Some (record { place = k; area = x.area }))
      here f = ap (λ c. if c then Some k else first_number (λ (d : CellView). fits d && nat_le d.area x.area) (k + 1) xs) ((λ i. f i && le-self x.area i))

      behind : (best : Option Best) → (fits x && within x.area best) ≡ false → FirstIs (k + 1) xs best → FirstIs k (x ∷ xs) best
      behind best off rest = ap (λ c. if c then Some k else first_number (λ (d : CellView). fits d && within d.area best) (k + 1) xs) off ∙ rest

      with_area : fits x ≡ true → (best : Option Best) → FirstIs (k + 1) xs best → FirstIs k (x ∷ xs) (better k (Some x.area) best)
      with_area f None rest = here f
      with_area f (Some b) rest = elim (leb_tells x.area b.area) [
        | inl h ↦ subst (λ c. FirstIs k (x ∷ xs) (if c then Some (record { place = k; area = x.area }) else Some b)) (sym h.0) (here f)
        | inr h ↦ subst (λ c. FirstIs k (x ∷ xs) (if c then Some (record { place = k; area = x.area }) else Some b)) (sym h.0) (behind (Some b) (ap (λ c. fits x && c) h.0 ∙ and-false (fits x)) rest)
      ]

      by : (c : Bool) → fits x ≡ c → (best : Option Best) → FirstIs (k + 1) xs best → FirstIs k (x ∷ xs) (better k (if fits x then Some x.area else None) best)
      by true f best rest = subst (λ c. FirstIs k (x ∷ xs) (better k (if c then Some x.area else None) best)) (sym f) (with_area f best rest)
      by false f best rest = subst (λ c. FirstIs k (x ∷ xs) (better k (if c then Some x.area else None) best)) (sym f) (behind best (ap (λ c. c && within x.area best) f) rest)

  pub least-is-choice : (cells : List CellView) → least_place (areas cells) ≡ choice fits cells
  least-is-choice cells = sym ((λ i. first_number (λ (c : CellView). fits c && lower-is 0 cells c.area i) 0 cells) ∙ first-is 0 cells)

-- ---- the place is one of the list

below-within : (k : ℕ) (xs : List (Option ℕ)) → IfSome (option_map (λ (b : Best). b.place) (least_from k xs)) (λ place. place < k + length xs)
below-within k [] = tt
below-within k (x ∷ xs) = by x (least_from (k + 1) xs) (below-within (k + 1) xs)
  where
    here : k < k + length (x ∷ xs)
    here = omega arith

    behind : (best : Option Best) → IfSome (option_map (λ (b : Best). b.place) best) (λ place. place < k + 1 + length xs) → IfSome (option_map (λ (b : Best). b.place) best) (λ place. place < k + length (x ∷ xs))
    behind None h = tt
    behind (Some b) h = omega (arith, h)

    chosen : (a : ℕ) (b : Best) (c : Bool) → IfSome (option_map (λ (b : Best). b.place) (Some b)) (λ place. place < k + 1 + length xs) → IfSome (option_map (λ (b : Best). b.place) (if c then Some (record { place = k; area = a }) else Some b)) (λ place. place < k + length (x ∷ xs))
    chosen a b true h = here
    chosen a b false h = behind (Some b) h

    by : (o : Option ℕ) (best : Option Best) → IfSome (option_map (λ (b : Best). b.place) best) (λ place. place < k + 1 + length xs) → IfSome (option_map (λ (b : Best). b.place) (better k o best)) (λ place. place < k + length (x ∷ xs))
    by None best h = behind best h
    by (Some a) None h = here
    by (Some a) (Some b) h = chosen a b (nat_le a b.area) h

pub least-within : (xs : List (Option ℕ)) → IfSome (least_place xs) (λ place. place < length xs)
least-within xs = subst (λ n. IfSome (least_place xs) (λ place. place < n)) zero_more (below-within 0 xs)
  where
    zero_more : 0 + length xs ≡ length xs
    zero_more = omega arith

pub within-most : (o : Option ℕ) (n m : ℕ) → n ≤ m → IfSome o (λ place. place < n) → IfSome o (λ place. place < m)
within-most None n m le h = tt
within-most (Some k) n m le h = omega (arith, le, h)
