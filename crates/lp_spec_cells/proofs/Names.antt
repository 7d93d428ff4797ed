-- Pins of a cell by their names, where no two have one name, and what a sound cell's function looks at.
use Rattle.std.proofs.Common.{◌≡◌, ℕ, zero, suc, ◌+◌, Bool, true, false, not, ◌&&◌, List, [], ◌∷◌, map, Some, inl, inr, refl, sym, ap, ◌∙◌, subst, arith}
use Rattle.std.specs.Prelude.{if◌then◌else◌, bytes_eq, filter, slice_get}
use Rattle.std.specs.List.{list_any}
use Rattle.std.proofs.lemmas.Bool.{false≢true, and_parts, not-true}
use Rattle.lp_text.specs.Texts.{distinct, same_text-true, true-same_text}
use Rattle.lp_model.specs.LibraryView.{PinView, CellView}
use Rattle.lp_spec_design.specs.Keys.{Name}
use Rattle.lp_spec_design.specs.Netlists.{first}
use Rattle.lp_spec_design.specs.Graph.{numbered}
use Rattle.lp_spec_design.specs.Winners.{IsIn}
use Rattle.lp_spec_design.specs.Settled.{pin_named}
use Rattle.lp_spec_design.proofs.Members.{in-map, any-in, of-filter}
use Rattle.lp_spec_pins.specs.Pins.{only, is_input_pin, input_for}

-- ---- the one of a list

pub only-is : {A : Type 0} (xs : List A) (x : A) → only xs ≡ Some x → xs ≡ x ∷ []
only-is [] x e = absurd cc
only-is (y ∷ []) x e = let same : y ≡ x = cc in ap (λ z. z ∷ []) same
only-is (y ∷ z ∷ rest) x e = absurd cc

pub only-in : {A : Type 0} (xs : List A) (x : A) → only xs ≡ Some x → IsIn x xs
only-in xs x e = subst (λ ys. IsIn x ys) (sym (only-is xs x e)) (inl refl)

-- the one that passes a test is one of the list that does
pub only-passes : {A : Type 0} (p : A → Bool) (xs : List A) (x : A) → only (filter p xs) ≡ Some x → IsIn x xs × (p x ≡ true)
only-passes p xs x e = of-filter p x xs (only-in (filter p xs) x e)

-- the one input of a use
pub record IsInputFor (purpose : PinView → Bool) (c : CellView) (q : PinView) : Type 0 where
  pub is_in : IsIn q c.pins
  pub input : is_input_pin q ≡ true
  pub for : purpose q ≡ true

pub input-for : (purpose : PinView → Bool) (c : CellView) (q : PinView) → input_for purpose c ≡ Some q → IsInputFor purpose c q
input-for purpose c q e =
    let found = only-passes (λ r. is_input_pin r && purpose r) c.pins q e in
    let parts = and_parts (is_input_pin q) (purpose q) found.1 in
    record { is_in = found.0; input = parts.0; for = parts.1 }

-- ---- names

abbrev pub names_of : List PinView → List Name
names_of pins = map (λ (q : PinView). q.name) pins

module _ {A : Type 0} (name : A → Name) where
  absent : (n : Name) (xs : List A) (r : A) → not (list_any (bytes_eq n) (map name xs)) ≡ true → IsIn r xs → n ≡ name r → ⊥
  absent n xs r e m same =
      false≢true (sym (not-true (list_any (bytes_eq n) (map name xs)) e) ∙ any-in (bytes_eq n) (name r) (map name xs) (in-map name r xs m) (true-same_text n (name r) same))

  -- what has one name is one, where no two have one name
  pub same-named : (xs : List A) (q r : A) → distinct (map name xs) ≡ true → IsIn q xs → IsIn r xs → name q ≡ name r → q ≡ r
  same-named [] q r apart m n e = absurd m
  same-named (p ∷ xs) q r apart m n e =
      let parts = and_parts (not (list_any (bytes_eq (name p)) (map name xs))) (distinct (map name xs)) apart in
      elim m [
        | inl is ↦ elim n [
          | inl also ↦ is ∙ sym also
          | inr rest ↦ absurd (absent (name p) xs r parts.0 rest (ap name (sym is) ∙ e))
        ]
        | inr rest ↦ elim n [
          | inl also ↦ absurd (absent (name p) xs q parts.0 rest (ap name (sym also) ∙ sym e))
          | inr more ↦ same-named xs q r parts.1 rest more e
        ]
      ]

pub first-in : {A : Type 0} (p : A → Bool) (xs : List A) (x : A) → first p xs ≡ Some x → IsIn x xs × (p x ≡ true)
first-in p [] x e = absurd cc
first-in p (y ∷ ys) x e = by (p y) refl e (first-in p ys x)
  where
    by : (b : Bool) → p y ≡ b → (if b then Some y else first p ys) ≡ Some x → (first p ys ≡ Some x → IsIn x ys × (p x ≡ true)) → IsIn x (y ∷ ys) × (p x ≡ true)
    by true f g more = let same : y ≡ x = cc in (inl (sym same), ap p (sym same) ∙ f)
    by false f g more = let found = more g in (inr found.0, found.1)

pub first-found : {A : Type 0} (p : A → Bool) (xs : List A) (x : A) → IsIn x xs → p x ≡ true → (y : A) × (first p xs ≡ Some y)
first-found p [] x m e = absurd m
first-found p (y ∷ ys) x m e = by (p y) refl (first-found p ys x)
  where
    by : (b : Bool) → p y ≡ b → (IsIn x ys → p x ≡ true → (z : _) × (first p ys ≡ Some z)) → (z : _) × ((if b then Some y else first p ys) ≡ Some z)
    by true f more = (y, refl)
    by false f more = elim m [ inl is ↦ absurd (false≢true (sym f ∙ ap p (sym is) ∙ e)) | inr r ↦ more r e ]

-- the first that passes a test is the only one
pub first-only : {A : Type 0} (p : A → Bool) (xs : List A) (x : A) → IsIn x xs → p x ≡ true → ((y : A) → IsIn y xs → p y ≡ true → y ≡ x) → first p xs ≡ Some x
first-only p xs x m e alone =
    let found = first-found p xs x m e in
    let there = first-in p xs found.0 found.1 in
    found.1 ∙ ap (λ y. Some y) (alone found.0 there.0 there.1)

-- each is the first of its name
pub first-named : {A : Type 0} (name : A → Name) (xs : List A) (a : A) → distinct (map name xs) ≡ true → IsIn a xs → first (λ r. bytes_eq (name r) (name a)) xs ≡ Some a
first-named name xs a apart m =
    first-only (λ r. bytes_eq (name r) (name a)) xs a m (true-same_text (name a) (name a) refl)
    (λ r n e. same-named name xs r a apart n m (same_text-true (name r) (name a) e))

pub named-itself : (c : CellView) (q : PinView) → distinct (names_of c.pins) ≡ true → IsIn q c.pins → pin_named c q.name ≡ Some q
named-itself c q apart m = first-named (λ (r : PinView). r.name) c.pins q apart m

pub filtered : {A : Type 0} (p : A → Bool) (a : A) (xs : List A) → IsIn a xs → p a ≡ true → IsIn a (filter p xs)
filtered p a [] h e = absurd h
filtered p a (x ∷ xs) h e = by (p x) refl h (filtered p a xs)
  where
    by : (b : Bool) → p x ≡ b → IsIn a (x ∷ xs) → (IsIn a xs → p a ≡ true → IsIn a (filter p xs)) → IsIn a (if b then x ∷ filter p xs else filter p xs)
    by true f (inl is) more = inl is
    by true f (inr r) more = inr (more r e)
    by false f (inl is) more = absurd (false≢true (sym f ∙ ap p (sym is) ∙ e))
    by false f (inr r) more = more r e

-- ---- numbers

pub numbered-get : {A : Type 0} (xs : List A) (from k : ℕ) (x : A) → IsIn (k, x) (numbered from xs) → (j : ℕ) × (k ≡ j + from) × (slice_get xs j ≡ Some x)
numbered-get [] from k x h = absurd h
numbered-get (y ∷ ys) from k x h = elim h [
  | inl is ↦ (zero, (let e : k ≡ from = ap (λ z. z.0) is in omega (arith, e)), ap (λ z. Some z) (sym (ap (λ z. z.1) is)))
  | inr r ↦ let found = numbered-get ys (from + 1) k x r in (suc found.0, omega (arith, found.1), found.2)
]

pub numbered-at : {A : Type 0} (xs : List A) (from : ℕ) (x : A) → IsIn x xs → (k : ℕ) × IsIn (k, x) (numbered from xs)
numbered-at [] from x h = absurd h
numbered-at (y ∷ ys) from x h = elim h [
  | inl is ↦ (from, inl (ap (λ z. (from, z)) is))
  | inr r ↦ let found = numbered-at ys (from + 1) x r in (found.0, inr found.1)
]

pub in-numbered : {A : Type 0} (xs : List A) (from j k : ℕ) (x : A) → slice_get xs j ≡ Some x → k ≡ j + from → IsIn (k, x) (numbered from xs)
in-numbered [] from j k x at e = absurd cc
in-numbered (y ∷ ys) from zero k x at e = let here : y ≡ x = cc in let n : k ≡ from = omega (arith, e) in inl (λ i. (n i, sym here i))
in-numbered (y ∷ ys) from (suc j) k x at e = inr (in-numbered ys (from + 1) j k x at (omega (arith, e)))

-- what stands at a number of a list is numbered so
pub get-numbered : {A : Type 0} (xs : List A) (k : ℕ) (x : A) → slice_get xs k ≡ Some x → IsIn (k, x) (numbered 0 xs)
get-numbered xs k x at = in-numbered xs 0 k k x at (omega arith)
