-- Members of lists, and lists without repetition.
use Rattle.std.proofs.Common.{◌≡◌, ◌⊎◌, ◌≤◌, ℕ, ◌+◌, Bool, true, false, ◌||◌, List, [], ◌∷◌, ◌++◌, map, suc, Option, Some, None, inl, inr, refl, sym, ap, ◌∙◌, subst, arith}
use Rattle.std.specs.Prelude.{length, flat_map, filter, if◌then◌else◌}
use Rattle.std.specs.List.{list_any}
use Rattle.std.proofs.lemmas.Bool.{false≢true}
use Rattle.lp_spec_design.specs.Graph.{pairs, and_more, some_of, when, numbered}
use Rattle.lp_spec_design.specs.Winners.{IsIn}

pub in-left : {A : Type 0} (a : A) (xs ys : List A) → IsIn a xs → IsIn a (xs ++ ys)
in-left a [] ys h = absurd h
in-left a (x ∷ xs) ys h = elim h [ inl is ↦ inl is | inr rest ↦ inr (in-left a xs ys rest) ]

pub in-right : {A : Type 0} (a : A) (xs ys : List A) → IsIn a ys → IsIn a (xs ++ ys)
in-right a [] ys h = h
in-right a (x ∷ xs) ys h = inr (in-right a xs ys h)

pub in-either : {A : Type 0} (a : A) (xs ys : List A) → IsIn a (xs ++ ys) → IsIn a xs ⊎ IsIn a ys
in-either a [] ys h = inr h
in-either a (x ∷ xs) ys h = elim h [ inl is ↦ inl (inl is) | inr rest ↦ elim (in-either a xs ys rest) [ inl l ↦ inl (inr l) | inr r ↦ inr r ] ]

pub in-map : {A B : Type 0} (f : A → B) (a : A) (xs : List A) → IsIn a xs → IsIn (f a) (map f xs)
in-map f a [] h = absurd h
in-map f a (x ∷ xs) h = elim h [ inl is ↦ inl (ap f is) | inr rest ↦ inr (in-map f a xs rest) ]

pub of-map : {A B : Type 0} (f : A → B) (b : B) (xs : List A) → IsIn b (map f xs) → (a : A) × IsIn a xs × (b ≡ f a)
of-map f b [] h = absurd h
of-map f b (x ∷ xs) h = elim h [ inl is ↦ (x, inl refl, is) | inr rest ↦ let found = of-map f b xs rest in (found.0, inr found.1, found.2) ]

pub in-flat : {A B : Type 0} (f : A → List B) (a : A) (b : B) (xs : List A) → IsIn a xs → IsIn b (f a) → IsIn b (flat_map f xs)
in-flat f a b [] h g = absurd h
in-flat f a b (x ∷ xs) h g = elim h [ inl is ↦ in-left b (f x) (flat_map f xs) (subst (λ y. IsIn b (f y)) is g) | inr rest ↦ in-right b (f x) (flat_map f xs) (in-flat f a b xs rest g) ]

pub of-flat : {A B : Type 0} (f : A → List B) (b : B) (xs : List A) → IsIn b (flat_map f xs) → (a : A) × IsIn a xs × IsIn b (f a)
of-flat f b [] h = absurd h
of-flat f b (x ∷ xs) h = elim (in-either b (f x) (flat_map f xs) h) [ inl here ↦ (x, inl refl, here) | inr rest ↦ let found = of-flat f b xs rest in (found.0, inr found.1, found.2) ]

pub of-filter : {A : Type 0} (p : A → Bool) (a : A) (xs : List A) → IsIn a (filter p xs) → IsIn a xs × (p a ≡ true)
of-filter p a [] h = absurd h
of-filter p a (x ∷ xs) h = by (p x) refl h (of-filter p a xs)
  where
    by : (b : Bool) → p x ≡ b → IsIn a (if b then x ∷ filter p xs else filter p xs) → (IsIn a (filter p xs) → IsIn a xs × (p a ≡ true)) → IsIn a (x ∷ xs) × (p a ≡ true)
    by true e g more = elim g [ inl is ↦ (inl is, ap p is ∙ e) | inr r ↦ let found = more r in (inr found.0, found.1) ]
    by false e g more = let found = more g in (inr found.0, found.1)

pub of-some : {A B : Type 0} (f : A → Option B) (b : B) (xs : List A) → IsIn b (some_of f xs) → (a : A) × IsIn a xs × (f a ≡ Some b)
of-some f b [] h = absurd h
of-some f b (x ∷ xs) h = by (f x) refl h (of-some f b xs)
  where
    by : (o : Option _) → f x ≡ o → IsIn b (and_more o (some_of f xs)) → (IsIn b (some_of f xs) → (a : _) × IsIn a xs × (f a ≡ Some b)) → (a : _) × IsIn a (x ∷ xs) × (f a ≡ Some b)
    by None e g more = let found = more g in (found.0, inr found.1, found.2)
    by (Some y) e g more = elim g [ inl is ↦ (x, inl refl, e ∙ ap (λ z. Some z) (sym is)) | inr r ↦ let found = more r in (found.0, inr found.1, found.2) ]

pub of-when : {A : Type 0} (b : Bool) (x y : A) → when b x ≡ Some y → b ≡ true
of-when true x y e = refl
of-when false x y e = absurd cc

pub of-any : {A : Type 0} (p : A → Bool) (xs : List A) → list_any p xs ≡ true → (a : A) × IsIn a xs × (p a ≡ true)
of-any p [] e = absurd (false≢true e)
of-any p (x ∷ xs) e = by (p x) refl e (of-any p xs)
  where
    by : (b : Bool) → p x ≡ b → (b || list_any p xs) ≡ true → (list_any p xs ≡ true → (a : _) × IsIn a xs × (p a ≡ true)) → (a : _) × IsIn a (x ∷ xs) × (p a ≡ true)
    by true f g more = (x, inl refl, f)
    by false f g more = let found = more g in (found.0, inr found.1, found.2)

pub of-pairs : {A B : Type 0} (z : A × B) (xs : List A) (ys : List B) → IsIn z (pairs xs ys) → IsIn z.0 xs × IsIn z.1 ys
of-pairs z [] ys h = absurd h
of-pairs z (x ∷ xs) [] h = absurd h
of-pairs z (x ∷ xs) (y ∷ ys) h = elim h [ inl is ↦ (inl (ap (λ q. q.0) is), inl (ap (λ q. q.1) is)) | inr r ↦ let found = of-pairs z xs ys r in (inr found.0, inr found.1) ]

pub of-numbered : {A : Type 0} (k : ℕ) (z : ℕ × A) (xs : List A) → IsIn z (numbered k xs) → IsIn z.1 xs
of-numbered k z [] h = absurd h
of-numbered k z (x ∷ xs) h = elim h [ inl is ↦ inl (ap (λ q. q.1) is) | inr r ↦ inr (of-numbered (k + 1) z xs r) ]

-- a test that holds of a member holds of one
pub any-in : {A : Type 0} (p : A → Bool) (a : A) (xs : List A) → IsIn a xs → p a ≡ true → list_any p xs ≡ true
any-in p a [] h e = absurd h
any-in p a (x ∷ xs) h e = elim h [ inl is ↦ ap (λ b. b || list_any p xs) (ap p (sym is) ∙ e) | inr rest ↦ by (p x) (any-in p a xs rest e) ]
  where
    by : (b : Bool) → list_any p xs ≡ true → (b || list_any p xs) ≡ true
    by true r = refl
    by false r = r

-- ---- lists without repetition

abbrev pub IsApart : {A : Type 0} → List A → Type 0
IsApart [] = Unit {0}
IsApart (x ∷ xs) = (IsIn x xs → ⊥) × IsApart xs

-- a list with a member is one longer than the rest, which has all others
parted : {A : Type 0} (x : A) (ys : List A) → IsIn x ys → (rest : List A) × (length ys ≡ suc (length rest)) × ((z : A) → IsIn z ys → (z ≡ x) ⊎ IsIn z rest)
parted x [] h = absurd h
parted x (y ∷ ys) (inl is) = (ys, refl, λ z h. elim h [ inl e ↦ inl (e ∙ sym is) | inr r ↦ inr r ])
parted x (y ∷ ys) (inr h) =
    let cut = parted x ys h in
    (y ∷ cut.0, ap suc cut.1, λ z g. elim g [ inl e ↦ inr (inl e) | inr r ↦ elim (cut.2 z r) [ inl is ↦ inl is | inr other ↦ inr (inr other) ] ])

-- it is no longer than a list that has all of its members
pub no-longer : {A : Type 0} (xs ys : List A) → IsApart xs → ((z : A) → IsIn z xs → IsIn z ys) → length xs ≤ length ys
no-longer [] ys apart within = omega arith
no-longer (x ∷ xs) ys apart within =
    let cut = parted x ys (within x (inl refl)) in
    let others : (z : _) → IsIn z xs → IsIn z cut.0 = λ z h. elim (cut.2 z (within z (inr h))) [ inl is ↦ absurd (apart.0 (subst (λ q. IsIn q xs) is h)) | inr r ↦ r ] in
    let rest = no-longer xs cut.0 apart.1 others in
    omega (arith, cut.1, rest)
