-- Numbers of items in lists without repetition, and lists whose items have names of their own.
use Rattle.std.proofs.Common.{◌≡◌, ◌⊎◌, ℕ, suc, ◌+◌, List, [], ◌∷◌, ◌++◌, map, length, inl, inr, refl, sym, ◌∙◌, ap, subst, arith}
use Rattle.std.specs.Prelude.{flat_map}
use Rattle.lp_model.specs.NetlistView.{BitView}
use Rattle.lp_spec_design.specs.Keys.{Name}
use Rattle.lp_spec_design.specs.Graph.{pairs, numbered}
use Rattle.lp_spec_design.specs.Winners.{IsIn}
use Rattle.lp_spec_design.proofs.Members.{IsApart, in-map, in-flat, of-numbered}
use Rattle.lp_spec_written_at.proofs.Weave.{apart-back, apart-sides}

-- ---- numbers

-- the same item of a list without repetition has one number
pub apart-number : {A : Type 0} (k : ℕ) (xs : List A) → IsApart xs → (u v : ℕ × A) → IsIn u (numbered k xs) → IsIn v (numbered k xs) → u.1 ≡ v.1 → u.0 ≡ v.0
apart-number k [] apart u v h g e = absurd h
apart-number k (x ∷ xs) apart u v (inl is) (inl too) e = ap (λ (z : ℕ × _). z.0) (is ∙ sym too)
apart-number k (x ∷ xs) apart u v (inl is) (inr g) e = absurd (apart.0 (subst (λ z. IsIn z xs) (sym e ∙ ap (λ (z : ℕ × _). z.1) is) (of-numbered (k + 1) v xs g)))
apart-number k (x ∷ xs) apart u v (inr h) (inl too) e = absurd (apart.0 (subst (λ z. IsIn z xs) (e ∙ ap (λ (z : ℕ × _). z.1) too) (of-numbered (k + 1) u xs h)))
apart-number k (x ∷ xs) apart u v (inr h) (inr g) e = apart-number (k + 1) xs apart.1 u v h g e

-- numbers go on from one list to the next
pub numbered-parts : {A : Type 0} (k : ℕ) (xs ys : List A) (u : ℕ × A) → IsIn u (numbered k (xs ++ ys)) → IsIn u (numbered k xs) ⊎ IsIn u (numbered (k + length xs) ys)
numbered-parts k [] ys u h = let same : k ≡ k + 0 = omega arith in inr (subst (λ j. IsIn u (numbered j ys)) same h)
numbered-parts k (x ∷ xs) ys u (inl is) = inl (inl is)
numbered-parts k (x ∷ xs) ys u (inr h) = elim (numbered-parts (k + 1) xs ys u h) [
  | inl l ↦ inl (inr l)
  | inr r ↦ let same : (k + 1) + length xs ≡ k + suc (length xs) = omega arith in inr (subst (λ j. IsIn u (numbered j ys)) same r)
]

pub numbered-map : {A B : Type 0} (f : A → B) (k : ℕ) (xs : List A) (z : ℕ × B) → IsIn z (numbered k (map f xs)) → (x : A) × IsIn (z.0, x) (numbered k xs) × (z.1 ≡ f x)
numbered-map f k [] z h = absurd h
numbered-map f k (x ∷ xs) z (inl is) = (x, inl (ap (λ (u : ℕ × _). (u.0, x)) is), ap (λ (u : ℕ × _). u.1) is)
numbered-map f k (x ∷ xs) z (inr h) = let found = numbered-map f (k + 1) xs z h in (found.0, inr found.1, found.2)

pub pairs-map : {A B : Type 0} (f : A → B) (xs ys : List A) → pairs (map f xs) (map f ys) ≡ map (λ (z : A × A). (f z.0, f z.1)) (pairs xs ys)
pairs-map f [] ys = refl
pairs-map f (x ∷ xs) [] = refl
pairs-map f (x ∷ xs) (y ∷ ys) = ap (λ r. (f x, f y) ∷ r) (pairs-map f xs ys)

-- an assign to one bit joins that alone
pub one-place : (net : BitView) (right : List BitView) (z : ℕ × (BitView × BitView)) → IsIn z (numbered 0 (pairs (net ∷ []) right)) → (z.0 ≡ 0) × (z.1.0 ≡ net)
one-place net [] z h = absurd h
one-place net (b ∷ right) z (inl is) = (ap (λ (u : ℕ × (BitView × BitView)). u.0) is, ap (λ (u : ℕ × (BitView × BitView)). u.1.0) is)
one-place net (b ∷ right) z (inr none) = absurd none

-- ---- names

pub unmap-apart : {A B : Type 0} (f : A → B) (xs : List A) → IsApart (map f xs) → IsApart xs
unmap-apart f [] apart = tt
unmap-apart f (x ∷ xs) apart = (λ h. apart.0 (in-map f x xs h), unmap-apart f xs apart.1)

-- where the names of all items together have no repetition and each item has one, no item is listed twice
pub flat-alone : {A : Type 0} (f : A → List Name) (g : A → Name) (xs : List A) → IsApart (flat_map f xs) → ((x : A) → IsIn x xs → IsIn (g x) (f x)) → IsApart xs
flat-alone f g [] apart has = tt
flat-alone f g (x ∷ xs) apart has = (
  λ h. apart-sides (f x) (flat_map f xs) apart (g x) (has x (inl refl)) (in-flat f x (g x) xs h (has x (inl refl))),
  flat-alone f g xs (apart-back (f x) (flat_map f xs) apart) (λ y h. has y (inr h)),
)
