-- What stands first in a list.
use Rattle.std.proofs.Common.{◌≡◌, ◌<◌, ℕ, zero, suc, ◌+◌, Bool, true, false, not, List, [], ◌∷◌, ◌++◌, length, map, Option, Some, None, inl, inr, refl, sym, ap, ◌∙◌, arith}
use Rattle.std.specs.Prelude.{is_some, slice_get, if◌then◌else◌, bytes_eq, unwrap_or}
use Rattle.std.specs.List.{list_any, list_all}
use Rattle.std.proofs.lemmas.Bool.{false≢true}
use Rattle.lp_model.specs.NetlistView.{InstanceView}
use Rattle.lp_spec_design.specs.Keys.{Name, Path, same_path}
use Rattle.lp_spec_design.specs.Netlists.{first}
use Rattle.lp_spec_design.specs.Graph.{some_of, and_more}
use Rattle.lp_spec_design.specs.Domains.{first_number}
use Rattle.lp_spec_design.specs.Winners.{IsIn}
use Rattle.lp_spec_design.specs.Reads.{one, other, name-self, path-true, path-self}
use Rattle.lp_spec_design.proofs.Members.{any-in, in-map}
use Rattle.lp_spec_realises.specs.ProjectNetlists.{are_apart}

pub none-first : {A : Type 0} (t : A → Bool) (xs : List A) → ((x : A) → IsIn x xs → t x ≡ false) → first t xs ≡ None
none-first t [] none = refl
none-first t (x ∷ xs) none = rw (none x (inl refl)) (none-first t xs (λ y h. none y (inr h)))

pub first-head : {A : Type 0} (t : A → Bool) (o : Option A) (x : A) (rest : List A) → o ≡ Some x → t x ≡ true → first t (and_more o rest) ≡ Some x
first-head t o x rest e h = ap (λ q. first t (and_more q rest)) e ∙ ap (λ b. if b then Some x else first t rest) h

pub first-left : {A : Type 0} (t : A → Bool) (xs ys : List A) (x : A) → first t xs ≡ Some x → first t (xs ++ ys) ≡ Some x
first-left t [] ys x e = absurd cc
first-left t (z ∷ xs) ys x e = by (t z) (first-left t xs ys x) e
  where
    by : (b : Bool) → (first t xs ≡ Some x → first t (xs ++ ys) ≡ Some x) → (if b then Some z else first t xs) ≡ Some x → (if b then Some z else first t (xs ++ ys)) ≡ Some x
    by true more g = g
    by false more g = more g

pub first-right : {A : Type 0} (t : A → Bool) (xs ys : List A) → first t xs ≡ None → first t (xs ++ ys) ≡ first t ys
first-right t [] ys e = refl
first-right t (z ∷ xs) ys e = by (t z) (first-right t xs ys) e
  where
    by : (b : Bool) → (first t xs ≡ None → first t (xs ++ ys) ≡ first t ys) → (if b then Some z else first t xs) ≡ None → (if b then Some z else first t (xs ++ ys)) ≡ first t ys
    by true more g = absurd cc
    by false more g = more g

-- the first of what is made of a list, where the test sees what it was made of
pub first-made : {A B : Type 0} (t : A → Bool) (u : B → Bool) (f : A → B) → ((x : A) → u (f x) ≡ t x) → (xs : List A) (x : A) → first t xs ≡ Some x → first u (map f xs) ≡ Some (f x)
first-made t u f same [] x e = absurd cc
first-made t u f same (z ∷ xs) x e = rw (same z) (by (t z) (first-made t u f same xs x) e)
  where
    by : (b : Bool) → (first t xs ≡ Some x → first u (map f xs) ≡ Some (f x)) → (if b then Some z else first t xs) ≡ Some x → (if b then Some (f z) else first u (map f xs)) ≡ Some (f x)
    by true more g = let is : z ≡ x = cc in ap (λ y. Some (f y)) is
    by false more g = more g

pub none-made : {A B : Type 0} (t : A → Bool) (u : B → Bool) (f : A → B) → ((x : A) → u (f x) ≡ t x) → (xs : List A) → first t xs ≡ None → first u (map f xs) ≡ None
none-made t u f same [] e = refl
none-made t u f same (z ∷ xs) e = rw (same z) (by (t z) (none-made t u f same xs) e)
  where
    by : (b : Bool) → (first t xs ≡ None → first u (map f xs) ≡ None) → (if b then Some z else first t xs) ≡ None → (if b then Some (f z) else first u (map f xs)) ≡ None
    by true more g = absurd cc
    by false more g = more g

-- one of what a list gives passes a test, and whatever passes it is that one
pub only-first : {A B : Type 0} (f : A → Option B) (t : B → Bool) (a : A) (b : B) → f a ≡ Some b → t b ≡ true
    → (xs : List A) → IsIn a xs → ((x : A) (y : B) → IsIn x xs → f x ≡ Some y → t y ≡ true → y ≡ b) → first t (some_of f xs) ≡ Some b
only-first f t a b e h [] here only = absurd here
only-first f t a b e h (z ∷ xs) here only = by (f z) refl here (λ r. only-first f t a b e h xs r (λ x y g. only x y (inr g)))
  where
    test : (y : _) → f z ≡ Some y → (r : Bool) → t y ≡ r → IsIn a (z ∷ xs) → (IsIn a xs → first t (some_of f xs) ≡ Some b) → (if r then Some y else first t (some_of f xs)) ≡ Some b
    test y is true g at more = ap (λ k. Some k) (only z y (inl refl) is g)
    test y is false g (inl at) more = let same : Some b ≡ Some y = sym e ∙ (ap f at ∙ is) in let eq : b ≡ y = cc in absurd (false≢true (sym g ∙ (ap t (sym eq) ∙ h)))
    test y is false g (inr at) more = more at

    by : (o : Option _) → f z ≡ o → IsIn a (z ∷ xs) → (IsIn a xs → first t (some_of f xs) ≡ Some b) → first t (and_more o (some_of f xs)) ≡ Some b
    by None is (inl at) more = let same : Some b ≡ None = sym e ∙ (ap f at ∙ is) in absurd cc
    by None is (inr at) more = more at
    by (Some y) is at more = test y is (t y) refl at more

-- ---- numbers in a list of instances

abbrev IsNumberOf : Path → ℕ → List Path → Option ℕ → Type 0
IsNumberOf x k xs found = (j : ℕ) × (found ≡ Some (j + k)) × (slice_get xs j ≡ Some x) × (j < length xs)

number-here : (x z : Path) (k : ℕ) (xs : List Path) → x ≡ z → IsNumberOf x k (z ∷ xs) (Some k)
number-here x z k xs e = let same : k ≡ 0 + k = omega arith in (zero, ap (λ n. Some n) same, ap (λ y. Some y) (sym e), omega arith)

number-later : (x z : Path) (k : ℕ) (xs : List Path) (o : Option ℕ) → IsNumberOf x (k + 1) xs o → IsNumberOf x k (z ∷ xs) o
number-later x z k xs o found =
    let same : found.0 + (k + 1) ≡ suc found.0 + k = omega arith in
    (suc found.0, found.1 ∙ ap (λ n. Some n) same, found.2, omega (arith, found.3))

number-of : (x : Path) (k : ℕ) (xs : List Path) → IsIn x xs → IsNumberOf x k xs (first_number (same_path x) k xs)
number-of x k [] h = absurd h
number-of x k (z ∷ xs) h = by (same_path x z) refl h (number-of x (k + 1) xs)
  where
    by : (b : Bool) → same_path x z ≡ b → IsIn x (z ∷ xs) → (IsIn x xs → IsNumberOf x (k + 1) xs (first_number (same_path x) (k + 1) xs)) → IsNumberOf x k (z ∷ xs) (if b then Some k else first_number (same_path x) (k + 1) xs)
    by true e at more = number-here x z k xs (path-true x z e)
    by false e (inl at) more = absurd (false≢true (sym e ∙ (ap (λ y. same_path x y) (sym at) ∙ path-self x)))
    by false e (inr at) more = number-later x z k xs (first_number (same_path x) (k + 1) xs) (more at)

-- equal numbers are of equal instances
pub number-tells : (xs : List Path) (x y : Path) → IsIn x xs → IsIn y xs → unwrap_or (first_number (same_path x) 0 xs) 0 ≡ unwrap_or (first_number (same_path y) 0 xs) 0 → x ≡ y
number-tells xs x y h g e =
    let one = number-of x 0 xs h in
    let two = number-of y 0 xs g in
    let left : unwrap_or (first_number (same_path x) 0 xs) 0 ≡ one.0 + 0 = ap (λ o. unwrap_or o 0) one.1 in
    let right : unwrap_or (first_number (same_path y) 0 xs) 0 ≡ two.0 + 0 = ap (λ o. unwrap_or o 0) two.1 in
    let same : one.0 ≡ two.0 = omega (arith, e, left, right) in
    let there : slice_get xs one.0 ≡ Some y = ap (λ j. slice_get xs j) same ∙ two.2 in
    let both : Some x ≡ Some y = sym one.2 ∙ there in
    cc

pub number-small : (xs : List Path) (x : Path) → IsIn x xs → unwrap_or (first_number (same_path x) 0 xs) 0 < length xs
number-small xs x h =
    let one = number-of x 0 xs h in
    let left : unwrap_or (first_number (same_path x) 0 xs) 0 ≡ one.0 + 0 = ap (λ o. unwrap_or o 0) one.1 in
    omega (arith, left, one.3)

-- ---- tests of lists

pub none-any : {A : Type 0} (t : A → Bool) (xs : List A) → ((x : A) → IsIn x xs → t x ≡ false) → list_any t xs ≡ false
none-any t [] none = refl
none-any t (x ∷ xs) none = rw (none x (inl refl)) (none-any t xs (λ y h. none y (inr h)))

pub any-none : {A : Type 0} (t : A → Bool) (x : A) (xs : List A) → list_any t xs ≡ false → IsIn x xs → t x ≡ false
any-none t x xs e h = by (t x) refl
  where
    by : (b : Bool) → t x ≡ b → b ≡ false
    by false g = refl
    by true g = absurd (false≢true (sym e ∙ any-in t x xs h g))

pub of-all : {A : Type 0} (t : A → Bool) (x : A) (xs : List A) → list_all t xs ≡ true → IsIn x xs → t x ≡ true
of-all t x [] e h = absurd h
of-all t x (z ∷ xs) e h = elim h [ inl is ↦ ap t is ∙ one (t z) (list_all t xs) e | inr r ↦ of-all t x xs (other (t z) (list_all t xs) e) r ]

pub all-of : {A : Type 0} (t : A → Bool) (xs : List A) → ((x : A) → IsIn x xs → t x ≡ true) → list_all t xs ≡ true
all-of t [] all = refl
all-of t (x ∷ xs) all = rw (all x (inl refl)) (all-of t xs (λ y h. all y (inr h)))

pub in-some : {A B : Type 0} (f : A → Option B) (a : A) (b : B) (xs : List A) → IsIn a xs → f a ≡ Some b → IsIn b (some_of f xs)
in-some f a b [] h e = absurd h
in-some f a b (x ∷ xs) h e = by (f x) refl h (λ r. in-some f a b xs r e)
  where
    by : (o : Option _) → f x ≡ o → IsIn a (x ∷ xs) → (IsIn a xs → IsIn b (some_of f xs)) → IsIn b (and_more o (some_of f xs))
    by None is (inl here) more = let none : None ≡ Some b = sym is ∙ (ap f (sym here) ∙ e) in absurd cc
    by None is (inr rest) more = more rest
    by (Some y) is (inl here) more = let same : Some y ≡ Some b = sym is ∙ (ap f (sym here) ∙ e) in let eq : b ≡ y = cc in inl eq
    by (Some y) is (inr rest) more = inr (more rest)

pub some-first : {A : Type 0} (t : A → Bool) (x : A) (xs : List A) → IsIn x xs → t x ≡ true → is_some (first t xs) ≡ true
some-first t x [] h e = absurd h
some-first t x (z ∷ xs) h e = by (t z) refl h (λ r. some-first t x xs r e)
  where
    by : (b : Bool) → t z ≡ b → IsIn x (z ∷ xs) → (IsIn x xs → is_some (first t xs) ≡ true) → is_some (if b then Some z else first t xs) ≡ true
    by true g at more = refl
    by false g (inl is) more = absurd (false≢true (sym g ∙ (ap t (sym is) ∙ e)))
    by false g (inr r) more = more r

pub in-slice : {A : Type 0} (xs : List A) (i : ℕ) (x : A) → slice_get xs i ≡ Some x → IsIn x xs
in-slice [] i x e = absurd cc
in-slice (z ∷ xs) zero x e = let is : z ≡ x = cc in inl (sym is)
in-slice (z ∷ xs) (suc i) x e = inr (in-slice xs i x e)

-- ---- names that stand once

pub apart-right : (xs ys : List Name) → are_apart (xs ++ ys) ≡ true → are_apart ys ≡ true
apart-right [] ys e = e
apart-right (x ∷ xs) ys e = apart-right xs ys (other (not (list_any (bytes_eq x) (xs ++ ys))) (are_apart (xs ++ ys)) e)

pub first-apart : (xs : List InstanceView) (z : InstanceView) → are_apart (map (λ (x : InstanceView). x.name) xs) ≡ true → IsIn z xs → first (λ (k : InstanceView). bytes_eq k.name z.name) xs ≡ Some z
first-apart [] z e h = absurd h
first-apart (y ∷ ys) z e h = by (bytes_eq y.name z.name) refl h (first-apart ys z rest)
  where
    names : List Name
    names = map (λ (x : InstanceView). x.name) ys

    rest : are_apart names ≡ true
    rest = other (not (list_any (bytes_eq y.name) names)) (are_apart names) e

    by : (b : Bool) → bytes_eq y.name z.name ≡ b → IsIn z (y ∷ ys) → (IsIn z ys → first (λ (k : InstanceView). bytes_eq k.name z.name) ys ≡ Some z) → (if b then Some y else first (λ (k : InstanceView). bytes_eq k.name z.name) ys) ≡ Some z
    by true g (inl is) more = ap (λ k. Some k) (sym is)
    by true g (inr r) more =
        let found : list_any (bytes_eq y.name) names ≡ true = any-in (bytes_eq y.name) z.name names (in-map (λ (x : InstanceView). x.name) z ys r) g in
        let not_found : not (list_any (bytes_eq y.name) names) ≡ true = one (not (list_any (bytes_eq y.name) names)) (are_apart names) e in
        absurd (false≢true (sym (ap not found) ∙ not_found))
    by false g (inl is) more = absurd (false≢true (sym g ∙ (ap (λ (k : InstanceView). bytes_eq k.name z.name) (sym is) ∙ name-self z.name)))
    by false g (inr r) more = more r
