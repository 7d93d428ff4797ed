-- Lists without repetition.
use Rattle.std.proofs.Common.{◌≡◌, ◌≤◌, ℕ, zero, suc, ◌+◌, Bool, true, false, not, ◌&&◌, ◌||◌, List, [], ◌∷◌, ◌++◌, map, length, Option, Some, None, inl, inr, refl, sym, ◌∙◌, ap, subst, arith}
use Rattle.std.specs.Prelude.{bytes_eq, slice_get, filter, if◌then◌else◌}
use Rattle.std.specs.List.{list_any}
use Rattle.std.proofs.lemmas.Bool.{false≢true}
use Rattle.lp_spec_design.specs.Keys.{Name}
use Rattle.lp_spec_design.specs.Graph.{pairs, and_more, some_of, numbered}
use Rattle.lp_spec_design.specs.Reads.{one, other, name-self}
use Rattle.lp_spec_design.specs.Winners.{IsIn}
use Rattle.lp_spec_design.proofs.Members.{IsApart, in-map, of-filter, of-some, of-pairs, any-in}
use Rattle.lp_spec_realises.specs.ProjectNetlists.{are_apart}

-- ---- apart, and all one

pub few-apart : {A : Type 0} (xs : List A) → length xs ≤ 1 → IsApart xs
few-apart [] few = tt
few-apart (x ∷ []) few = ((λ h. h), tt)
few-apart (x ∷ y ∷ xs) few = absurd (omega (arith, few))

pub apart-few : {A : Type 0} (xs : List A) → IsApart xs → ((x y : A) → IsIn x xs → IsIn y xs → x ≡ y) → length xs ≤ 1
apart-few [] apart same = omega arith
apart-few (x ∷ []) apart same = omega arith
apart-few (x ∷ y ∷ xs) apart same = absurd (apart.0 (inl (same x y (inl refl) (inr (inl refl)))))

in-slice : {A : Type 0} (xs : List A) (i : ℕ) (x : A) → slice_get xs i ≡ Some x → IsIn x xs
in-slice [] i x e = absurd cc
in-slice (y ∷ xs) zero x e = inl cc
in-slice (y ∷ xs) (suc i) x e = inr (in-slice xs i x e)

heads : {A : Type 0} (x y : A) → Some x ≡ Some y → x ≡ y
heads x y e = cc

pub apart-places : {A : Type 0} (xs : List A) → IsApart xs → (i j : ℕ) (y : A) → slice_get xs i ≡ Some y → slice_get xs j ≡ Some y → i ≡ j
apart-places [] apart i j y e f = absurd cc
apart-places (x ∷ xs) apart zero zero y e f = refl
apart-places (x ∷ xs) apart zero (suc j) y e f = absurd (apart.0 (subst (λ z. IsIn z xs) (sym (heads x y e)) (in-slice xs j y f)))
apart-places (x ∷ xs) apart (suc i) zero y e f = absurd (apart.0 (subst (λ z. IsIn z xs) (sym (heads x y f)) (in-slice xs i y e)))
apart-places (x ∷ xs) apart (suc i) (suc j) y e f = ap suc (apart-places xs apart.1 i j y e f)

pub filter-apart : {A : Type 0} (t : A → Bool) (xs : List A) → IsApart xs → IsApart (filter t xs)
filter-apart t [] apart = tt
filter-apart t (x ∷ xs) apart = by (t x) (filter-apart t xs apart.1)
  where
    by : (b : Bool) → IsApart (filter t xs) → IsApart (if b then x ∷ filter t xs else filter t xs)
    by true more = ((λ h. apart.0 (of-filter t x xs h).0), more)
    by false more = more

pub some-apart : {A B : Type 0} (f : A → Option B) (xs : List A) → IsApart xs → ((x y : A) (b : B) → IsIn x xs → IsIn y xs → f x ≡ Some b → f y ≡ Some b → x ≡ y) → IsApart (some_of f xs)
some-apart f [] apart alone = tt
some-apart f (x ∷ xs) apart alone = by (f x) refl (some-apart f xs apart.1 (λ y z b h g. alone y z b (inr h) (inr g)))
  where
    by : (o : Option _) → f x ≡ o → IsApart (some_of f xs) → IsApart (and_more o (some_of f xs))
    by None e more = more
    by (Some b) e more = (
      λ h. let found = of-some f b xs h in apart.0 (subst (λ z. IsIn z xs) (sym (alone x found.0 b (inl refl) (inr found.1) e found.2)) found.1),
      more,
    )

-- ---- by names

module _ {A : Type 0} (f : A → Name) where
  not-named : (n : Name) (xs : List A) → not (list_any (bytes_eq n) (map f xs)) ≡ true → (y : A) → IsIn y xs → n ≡ f y → ⊥
  not-named n xs e y h is =
      let there : list_any (bytes_eq n) (map f xs) ≡ true = any-in (bytes_eq n) (f y) (map f xs) (in-map f y xs h) (ap (bytes_eq n) (sym is) ∙ name-self n) in
      false≢true (ap not (sym there) ∙ e)

  pub named-apart : (xs : List A) → are_apart (map f xs) ≡ true → IsApart xs
  named-apart [] e = tt
  named-apart (x ∷ xs) e = (
    λ h. not-named (f x) xs (one (not (list_any (bytes_eq (f x)) (map f xs))) (are_apart (map f xs)) e) x h refl,
    named-apart xs (other (not (list_any (bytes_eq (f x)) (map f xs))) (are_apart (map f xs)) e),
  )

  pub named-same : (xs : List A) → are_apart (map f xs) ≡ true → (x y : A) → IsIn x xs → IsIn y xs → f x ≡ f y → x ≡ y
  named-same [] e x y h g same = absurd h
  named-same (z ∷ xs) e x y (inl is) (inl too) same = is ∙ sym too
  named-same (z ∷ xs) e x y (inl is) (inr g) same = absurd (not-named (f z) xs (one (not (list_any (bytes_eq (f z)) (map f xs))) (are_apart (map f xs)) e) y g (ap f (sym is) ∙ same))
  named-same (z ∷ xs) e x y (inr h) (inl too) same = absurd (not-named (f z) xs (one (not (list_any (bytes_eq (f z)) (map f xs))) (are_apart (map f xs)) e) x h (ap f (sym too) ∙ sym same))
  named-same (z ∷ xs) e x y (inr h) (inr g) same = named-same xs (other (not (list_any (bytes_eq (f z)) (map f xs))) (are_apart (map f xs)) e) x y h g same

any-left : (n : Name) (xs ys : List Name) → not (list_any (bytes_eq n) (xs ++ ys)) ≡ true → not (list_any (bytes_eq n) xs) ≡ true
any-left n [] ys e = refl
any-left n (x ∷ xs) ys e = by (bytes_eq n x) e (any-left n xs ys)
  where
    by : (b : Bool) → not (b || list_any (bytes_eq n) (xs ++ ys)) ≡ true → (not (list_any (bytes_eq n) (xs ++ ys)) ≡ true → not (list_any (bytes_eq n) xs) ≡ true) → not (b || list_any (bytes_eq n) xs) ≡ true
    by true g more = g
    by false g more = more g

pub apart-left : (xs ys : List Name) → are_apart (xs ++ ys) ≡ true → are_apart xs ≡ true
apart-left [] ys e = refl
apart-left (x ∷ xs) ys e = by (not (list_any (bytes_eq x) xs)) (any-left x xs ys (one (not (list_any (bytes_eq x) (xs ++ ys))) (are_apart (xs ++ ys)) e)) (apart-left xs ys (other (not (list_any (bytes_eq x) (xs ++ ys))) (are_apart (xs ++ ys)) e))
  where
    by : (b : Bool) → b ≡ true → are_apart xs ≡ true → (b && are_apart xs) ≡ true
    by true e more = more
    by false e more = absurd (false≢true e)

-- ---- by numbers and indices

numbered-from : {A : Type 0} (k : ℕ) (xs : List A) (z : ℕ × A) → IsIn z (numbered k xs) → k ≤ z.0
numbered-from k [] z h = absurd h
numbered-from k (x ∷ xs) z (inl is) = let first : z.0 ≡ k = ap (λ (u : ℕ × _). u.0) is in omega (arith, first)
numbered-from k (x ∷ xs) z (inr h) = let more = numbered-from (k + 1) xs z h in omega (arith, more)

pub numbered-apart : {A : Type 0} (k : ℕ) (xs : List A) → IsApart (numbered k xs)
numbered-apart k [] = tt
numbered-apart k (x ∷ xs) = ((λ h. let low = numbered-from (k + 1) xs (k, x) h in omega (arith, low)), numbered-apart (k + 1) xs)

pub numbered-same : {A : Type 0} (k : ℕ) (xs : List A) (y z : ℕ × A) → IsIn y (numbered k xs) → IsIn z (numbered k xs) → y.0 ≡ z.0 → y ≡ z
numbered-same k [] y z h g same = absurd h
numbered-same k (x ∷ xs) y z (inl is) (inl too) same = is ∙ sym too
numbered-same k (x ∷ xs) y z (inl is) (inr g) same = let low = numbered-from (k + 1) xs z g in let first : y.0 ≡ k = ap (λ (u : ℕ × _). u.0) is in absurd (omega (arith, low, first, same))
numbered-same k (x ∷ xs) y z (inr h) (inl too) same = let low = numbered-from (k + 1) xs y h in let first : z.0 ≡ k = ap (λ (u : ℕ × _). u.0) too in absurd (omega (arith, low, first, same))
numbered-same k (x ∷ xs) y z (inr h) (inr g) same = numbered-same (k + 1) xs y z h g same

pub pairs-apart : {A B : Type 0} (xs : List A) (ys : List B) → IsApart xs → IsApart (pairs xs ys)
pairs-apart [] ys apart = tt
pairs-apart (x ∷ xs) [] apart = tt
pairs-apart (x ∷ xs) (y ∷ ys) apart = ((λ h. apart.0 (of-pairs (x, y) xs ys h).0), pairs-apart xs ys apart.1)

pub pairs-same : {A B : Type 0} (xs : List A) (ys : List B) → IsApart xs → (u v : A × B) → IsIn u (pairs xs ys) → IsIn v (pairs xs ys) → u.0 ≡ v.0 → u ≡ v
pairs-same [] ys apart u v h g same = absurd h
pairs-same (x ∷ xs) [] apart u v h g same = absurd h
pairs-same (x ∷ xs) (y ∷ ys) apart u v (inl is) (inl too) same = is ∙ sym too
pairs-same (x ∷ xs) (y ∷ ys) apart u v (inl is) (inr g) same = absurd (apart.0 (subst (λ z. IsIn z xs) (sym same ∙ ap (λ (t : _ × _). t.0) is) (of-pairs v xs ys g).0))
pairs-same (x ∷ xs) (y ∷ ys) apart u v (inr h) (inl too) same = absurd (apart.0 (subst (λ z. IsIn z xs) (same ∙ ap (λ (t : _ × _). t.0) too) (of-pairs u xs ys h).0))
pairs-same (x ∷ xs) (y ∷ ys) apart u v (inr h) (inr g) same = pairs-same xs ys apart.1 u v h g same
