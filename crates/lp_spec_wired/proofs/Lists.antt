-- What stands first in lists, and what is connected to a name.
use Rattle.std.proofs.Common.{◌≡◌, ℕ, zero, suc, ◌+◌, Bool, true, false, cond, List, [], ◌∷◌, ◌++◌, map, Option, Some, None, inl, inr, refl, sym, ◌∙◌, ap, subst, arith}
use Rattle.std.specs.Prelude.{bytes_eq, filter, slice_get}
use Rattle.std.proofs.lemmas.Bool.{false≢true}
use Rattle.lp_model.specs.NetlistView.{BitView, ConnectionView}
use Rattle.lp_spec_design.specs.Keys.{Name}
use Rattle.lp_spec_design.specs.Netlists.{first, bits_named}
use Rattle.lp_spec_design.specs.Graph.{numbered, some_of, and_more}
use Rattle.lp_spec_design.specs.Winners.{IsIn}

-- ---- the first that passes a test

module _ {A : Type 0} (p : A → Bool) where
  -- it heads all that pass
  pub first-filter : (xs : List A) (x : A) → first p xs ≡ Some x → (rest : List A) × (filter p xs ≡ x ∷ rest)
  first-filter [] x e = absurd cc
  first-filter (y ∷ xs) x e = by (p y) refl e (λ f. first-filter xs x f)
    where
      by : (b : Bool) → p y ≡ b → cond b (Some y) (first p xs) ≡ Some x → (first p xs ≡ Some x → (rest : List A) × (filter p xs ≡ x ∷ rest)) → (rest : List A) × (cond b (y ∷ filter p xs) (filter p xs) ≡ x ∷ rest)
      by true is f more = let same : y ≡ x = cc in (filter p xs, ap (λ z. z ∷ filter p xs) same)
      by false is f more = more f

  -- where none passes before, it stands behind
  pub first-behind : (xs ys : List A) → ((x : A) → IsIn x xs → p x ≡ false) → first p (xs ++ ys) ≡ first p ys
  first-behind [] ys none = refl
  first-behind (x ∷ xs) ys none = rw (none x (inl refl)) (first-behind xs ys (λ y h. none y (inr h)))

  -- where one passes, there is a first one
  pub first-there : (xs : List A) (x : A) → IsIn x xs → p x ≡ true → (y : A) × IsIn y xs × (p y ≡ true) × (first p xs ≡ Some y)
  first-there [] x h e = absurd h
  first-there (z ∷ xs) x h e = by (p z) refl (λ g. first-there xs x g e)
    where
      by : (b : Bool) → p z ≡ b → (IsIn x xs → (y : A) × IsIn y xs × (p y ≡ true) × (first p xs ≡ Some y)) → (y : A) × IsIn y (z ∷ xs) × (p y ≡ true) × (cond b (Some z) (first p xs) ≡ Some y)
      by true is more = (z, inl refl, is, refl)
      by false is more = elim h [ inl same ↦ absurd (false≢true (sym is ∙ (ap p (sym same) ∙ e))) | inr r ↦ let found = more r in (found.0, inr found.1, found.2, found.3) ]

  pub first-left : (xs ys : List A) (x : A) → first p xs ≡ Some x → first p (xs ++ ys) ≡ Some x
  first-left [] ys x e = absurd cc
  first-left (z ∷ xs) ys x e = by (p z) e (λ f. first-left xs ys x f)
    where
      by : (b : Bool) → cond b (Some z) (first p xs) ≡ Some x → (first p xs ≡ Some x → first p (xs ++ ys) ≡ Some x) → cond b (Some z) (first p (xs ++ ys)) ≡ Some x
      by true f more = f
      by false f more = more f

  -- where none passes, there is no first one
  pub first-none : (xs : List A) → ((x : A) → IsIn x xs → p x ≡ false) → first p xs ≡ None
  first-none [] none = refl
  first-none (x ∷ xs) none = rw (none x (inl refl)) (first-none xs (λ y h. none y (inr h)))

  -- in a list of which each item is made anew with what the test sees, the first one is made of the first
  pub first-made : (f : A → A) → ((x : A) → p (f x) ≡ p x) → (xs ys : List A) (x : A) → first p xs ≡ Some x → first p (map f xs ++ ys) ≡ Some (f x)
  first-made f same [] ys x e = absurd cc
  first-made f same (z ∷ xs) ys x e = rw (same z) (by (p z) e (λ g. first-made f same xs ys x g))
    where
      by : (b : Bool) → cond b (Some z) (first p xs) ≡ Some x → (first p xs ≡ Some x → first p (map f xs ++ ys) ≡ Some (f x)) → cond b (Some (f z)) (first p (map f xs ++ ys)) ≡ Some (f x)
      by true g more = let is : z ≡ x = cc in ap (λ y. Some (f y)) is
      by false g more = more g

-- ---- some of a list

pub in-some : {A B : Type 0} (f : A → Option B) (a : A) (b : B) (xs : List A) → IsIn a xs → f a ≡ Some b → IsIn b (some_of f xs)
in-some f a b [] h e = absurd h
in-some f a b (x ∷ xs) h e = elim h [
  | inl is ↦ subst (λ o. IsIn b (and_more o (some_of f xs))) (sym (ap f (sym is) ∙ e)) (inl refl)
  | inr r ↦ by (f x) (in-some f a b xs r e)
]
  where
    by : (o : Option _) → IsIn b (some_of f xs) → IsIn b (and_more o (some_of f xs))
    by None h = h
    by (Some y) h = inr h

numbered-from : {A : Type 0} (xs : List A) (n k j : ℕ) (x : A) → slice_get xs k ≡ Some x → j ≡ n + k → IsIn (j, x) (numbered n xs)
numbered-from [] n k j x e is = absurd cc
numbered-from (y ∷ xs) n zero j x e is = let same : x ≡ y = cc in let at : j ≡ n = omega (arith, is) in inl (ap (λ z. (z, x)) at ∙ ap (λ z. (n, z)) same)
numbered-from (y ∷ xs) n (suc k) j x e is = inr (numbered-from xs (n + 1) k j x e (omega (arith, is)))

-- an item of a list stands in it with its number
pub numbered-at : {A : Type 0} (xs : List A) (k : ℕ) (x : A) → slice_get xs k ≡ Some x → IsIn (k, x) (numbered 0 xs)
numbered-at xs k x e = numbered-from xs 0 k k x e (omega arith)

numbered-get : {A : Type 0} (xs : List A) (n : ℕ) (z : ℕ × A) → IsIn z (numbered n xs) → (k : ℕ) × (z.0 ≡ n + k) × (slice_get xs k ≡ Some z.1)
numbered-get [] n z h = absurd h
numbered-get (x ∷ xs) n z h = elim h [
  | inl is ↦ (0, ap (λ y. y.0) is ∙ (omega arith), ap (λ y. Some y.1) (sym is))
  | inr r ↦ let found = numbered-get xs (n + 1) z r in let at : z.0 ≡ n + suc found.0 = omega (arith, found.1) in (suc found.0, at, found.2)
]

pub at-numbered : {A : Type 0} (xs : List A) (z : ℕ × A) → IsIn z (numbered 0 xs) → slice_get xs z.0 ≡ Some z.1
at-numbered xs z h = let found = numbered-get xs 0 z h in let at : z.0 ≡ found.0 = omega (arith, found.1) in ap (slice_get xs) at ∙ found.2

-- ---- connections

pub bits-behind : (n : Name) (xs ys : List ConnectionView) → ((c : ConnectionView) → IsIn c xs → bytes_eq c.port n ≡ false) → bits_named n (xs ++ ys) ≡ bits_named n ys
bits-behind n [] ys none = refl
bits-behind n (c ∷ xs) ys none = rw (none c (inl refl)) (bits-behind n xs ys (λ d h. none d (inr h)))

pub bits-none : (n : Name) (cs : List ConnectionView) → ((c : ConnectionView) → IsIn c cs → bytes_eq c.port n ≡ false) → bits_named n cs ≡ []
bits-none n [] none = refl
bits-none n (c ∷ cs) none = rw (none c (inl refl)) (bits-none n cs (λ d h. none d (inr h)))

pub bits-left : (n : Name) (xs ys : List ConnectionView) → bits_named n ys ≡ [] → bits_named n (xs ++ ys) ≡ bits_named n xs
bits-left n [] ys e = e
bits-left n (c ∷ xs) ys e = ap (λ r. cond (bytes_eq c.port n) c.bits r) (bits-left n xs ys e)

-- where one has the name, and all that have it have these bits
pub bits-there : (n : Name) (bits : List BitView) (xs ys : List ConnectionView) (c : ConnectionView) → IsIn c xs → bytes_eq c.port n ≡ true → ((d : ConnectionView) → IsIn d xs → bytes_eq d.port n ≡ true → d.bits ≡ bits) → bits_named n (xs ++ ys) ≡ bits
bits-there n bits [] ys c h e all = absurd h
bits-there n bits (d ∷ xs) ys c h e all = by (bytes_eq d.port n) refl (λ g. bits-there n bits xs ys c g e (λ f r. all f (inr r)))
  where
    by : (b : Bool) → bytes_eq d.port n ≡ b → (IsIn c xs → bits_named n (xs ++ ys) ≡ bits) → cond b d.bits (bits_named n (xs ++ ys)) ≡ bits
    by true is more = all d (inl refl) is
    by false is more = elim h [ inl same ↦ absurd (false≢true (sym is ∙ (ap (λ (x : ConnectionView). bytes_eq x.port n) (sym same) ∙ e))) | inr r ↦ more r ]
