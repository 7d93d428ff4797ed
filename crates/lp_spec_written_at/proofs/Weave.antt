-- Lists without repetition, put together and taken apart.
use Rattle.std.proofs.Common.{◌≡◌, ◌⊎◌, ℕ, suc, ◌+◌, Bool, true, false, not, cond, List, [], ◌∷◌, ◌++◌, length, map, Option, Some, None, inl, inr, refl, sym, ap, ◌∙◌, subst, arith}
use Rattle.std.specs.Prelude.{filter, bytes_eq}
use Rattle.std.specs.List.{list_any}
use Rattle.std.proofs.lemmas.Bool.{false≢true}
use Rattle.lp_spec_design.specs.Keys.{Name}
use Rattle.lp_spec_design.specs.Graph.{numbered, some_of, and_more}
use Rattle.lp_spec_design.specs.Winners.{IsIn}
use Rattle.lp_spec_design.specs.Reads.{one, other, name-self}
use Rattle.lp_spec_design.proofs.Members.{IsApart, in-left, in-right, in-either, in-map, of-map, of-some, of-filter, any-in}
use Rattle.lp_spec_realises.specs.ProjectNetlists.{are_apart}
use Rattle.lp_spec_written_at.proofs.Instances.{apart-append}
use Rattle.lp_spec_written_at.proofs.Switches.{number-from}

-- ---- names

pub names-apart : (ns : List Name) → are_apart ns ≡ true → IsApart ns
names-apart [] e = tt
names-apart (n ∷ ns) e = (
  λ h. false≢true (ap not (sym (any-in (bytes_eq n) n ns h (name-self n))) ∙ one (not (list_any (bytes_eq n) ns)) (are_apart ns) e),
  names-apart ns (other (not (list_any (bytes_eq n) ns)) (are_apart ns) e),
)

-- ---- two lists

pub apart-front : {A : Type 0} (xs ys : List A) → IsApart (xs ++ ys) → IsApart xs
apart-front [] ys apart = tt
apart-front (x ∷ xs) ys apart = (λ h. apart.0 (in-left x xs ys h), apart-front xs ys apart.1)

pub apart-back : {A : Type 0} (xs ys : List A) → IsApart (xs ++ ys) → IsApart ys
apart-back [] ys apart = apart
apart-back (x ∷ xs) ys apart = apart-back xs ys apart.1

pub apart-sides : {A : Type 0} (xs ys : List A) → IsApart (xs ++ ys) → (z : A) → IsIn z xs → IsIn z ys → ⊥
apart-sides [] ys apart z h g = h
apart-sides (x ∷ xs) ys apart z (inl is) g = apart.0 (subst (λ v. IsIn v (xs ++ ys)) is (in-right z xs ys g))
apart-sides (x ∷ xs) ys apart z (inr h) g = apart-sides xs ys apart.1 z h g

-- lists of two kinds, taken in turn
module _ {A : Type 0} where
  pub in-turn : (z : A) (b c e f : List A) → IsIn z ((b ++ e) ++ (c ++ f)) → IsIn z (b ++ c) ⊎ IsIn z (e ++ f)
  in-turn z b c e f h = elim (in-either z (b ++ e) (c ++ f) h) [
    | inl l ↦ elim (in-either z b e l) [ inl m ↦ inl (in-left z b c m) | inr n ↦ inr (in-left z e f n) ]
    | inr r ↦ elim (in-either z c f r) [ inl m ↦ inl (in-right z b c m) | inr n ↦ inr (in-right z e f n) ]
  ]

  turn : (xs ys us vs : List A) → IsApart (xs ++ ys) → IsApart (us ++ vs) → ((z : A) → IsIn z (xs ++ ys) → IsIn z (us ++ vs) → ⊥) → IsApart ((xs ++ us) ++ (ys ++ vs))
  turn xs ys us vs one two none =
      apart-append (xs ++ us) (ys ++ vs)
      (apart-append xs us (apart-front xs ys one) (apart-front us vs two) (λ z h g. none z (in-left z xs ys h) (in-left z us vs g)))
      (apart-append ys vs (apart-back xs ys one) (apart-back us vs two) (λ z h g. none z (in-right z xs ys h) (in-right z us vs g)))
      differ
    where
      differ : (z : A) → IsIn z (xs ++ us) → IsIn z (ys ++ vs) → ⊥
      differ z h g = elim (in-either z xs us h) [
        | inl l ↦ elim (in-either z ys vs g) [ inl m ↦ apart-sides xs ys one z l m | inr n ↦ none z (in-left z xs ys l) (in-right z us vs n) ]
        | inr r ↦ elim (in-either z ys vs g) [ inl m ↦ none z (in-right z xs ys m) (in-left z us vs r) | inr n ↦ apart-sides us vs two z r n ]
      ]

  -- three lists of one kind and three of another
  pub in-turns : (a b c d e f : List A) → IsApart (a ++ (b ++ c)) → IsApart (d ++ (e ++ f)) → ((z : A) → IsIn z (a ++ (b ++ c)) → IsIn z (d ++ (e ++ f)) → ⊥) → IsApart ((a ++ d) ++ ((b ++ e) ++ (c ++ f)))
  in-turns a b c d e f one two none =
      apart-append (a ++ d) ((b ++ e) ++ (c ++ f))
      (apart-append a d (apart-front a (b ++ c) one) (apart-front d (e ++ f) two) (λ z h g. none z (in-left z a (b ++ c) h) (in-left z d (e ++ f) g)))
      (turn b c e f (apart-back a (b ++ c) one) (apart-back d (e ++ f) two) (λ z h g. none z (in-right z a (b ++ c) h) (in-right z d (e ++ f) g)))
      differ
    where
      differ : (z : A) → IsIn z (a ++ d) → IsIn z ((b ++ e) ++ (c ++ f)) → ⊥
      differ z h g = elim (in-either z a d h) [
        | inl l ↦ elim (in-turn z b c e f g) [ inl m ↦ apart-sides a (b ++ c) one z l m | inr n ↦ none z (in-left z a (b ++ c) l) (in-right z d (e ++ f) n) ]
        | inr r ↦ elim (in-turn z b c e f g) [ inl m ↦ none z (in-right z a (b ++ c) m) (in-left z d (e ++ f) r) | inr n ↦ apart-sides d (e ++ f) two z r n ]
      ]

-- ---- what is made of a list

pub apart-filter : {A : Type 0} (t : A → Bool) (xs : List A) → IsApart xs → IsApart (filter t xs)
apart-filter t [] apart = tt
apart-filter t (x ∷ xs) apart = by (t x) (apart-filter t xs apart.1)
  where
    by : (b : Bool) → IsApart (filter t xs) → IsApart (cond b (x ∷ filter t xs) (filter t xs))
    by true more = (λ h. apart.0 (of-filter t x xs h).0, more)
    by false more = more

pub apart-some : {A B C : Type 0} (f : A → Option B) (g : B → C) (xs : List A) → IsApart xs
    → ((x y : A) (b c : B) → IsIn x xs → IsIn y xs → f x ≡ Some b → f y ≡ Some c → g b ≡ g c → x ≡ y)
    → IsApart (map g (some_of f xs))
apart-some f g [] apart tells = tt
apart-some f g (x ∷ xs) apart tells = by (f x) refl (apart-some f g xs apart.1 (λ y z b c h i. tells y z b c (inr h) (inr i)))
  where
    absent : (b : _) → f x ≡ Some b → IsIn (g b) (map g (some_of f xs)) → ⊥
    absent b e h =
        let one = of-map g (g b) (some_of f xs) h in
        let two = of-some f one.0 xs one.1 in
        apart.0 (subst (λ z. IsIn z xs) (sym (tells x two.0 b one.0 (inl refl) (inr two.1) e two.2 one.2)) two.1)

    by : (o : Option _) → f x ≡ o → IsApart (map g (some_of f xs)) → IsApart (map g (and_more o (some_of f xs)))
    by None e more = more
    by (Some b) e more = (absent b e, more)

-- what has one key is one
pub key-tells : {A B : Type 0} (g : A → B) (xs : List A) → IsApart (map g xs) → (x y : A) → IsIn x xs → IsIn y xs → g x ≡ g y → x ≡ y
key-tells g [] apart x y h i e = absurd h
key-tells g (z ∷ xs) apart x y (inl a) (inl b) e = a ∙ sym b
key-tells g (z ∷ xs) apart x y (inl a) (inr i) e = absurd (apart.0 (subst (λ v. IsIn v (map g xs)) (sym e ∙ ap g a) (in-map g y xs i)))
key-tells g (z ∷ xs) apart x y (inr h) (inl b) e = absurd (apart.0 (subst (λ v. IsIn v (map g xs)) (e ∙ ap g b) (in-map g x xs h)))
key-tells g (z ∷ xs) apart x y (inr h) (inr i) e = key-tells g xs apart.1 x y h i e

pub numbered-apart : {A : Type 0} (k : ℕ) (xs : List A) → IsApart (numbered k xs)
numbered-apart k [] = tt
numbered-apart k (x ∷ xs) = (λ h. let from = number-from (k + 1) xs (k, x) h in let least = from.0 in omega (arith, least), numbered-apart (k + 1) xs)

pub numbered-length : {A : Type 0} (k : ℕ) (xs : List A) → length (numbered k xs) ≡ length xs
numbered-length k [] = refl
numbered-length k (x ∷ xs) = ap suc (numbered-length (k + 1) xs)
