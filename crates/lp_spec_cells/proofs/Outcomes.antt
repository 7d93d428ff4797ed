-- What a list of outcomes agrees on, by which outcomes occur, and which occur where some values are unknown.
use Rattle.std.proofs.Common.{◌≡◌, Bool, true, false, not, List, [], ◌∷◌, map, inl, inr, refl, sym, ap, ◌∙◌, subst}
use Rattle.std.specs.Prelude.{if◌then◌else◌}
use Rattle.std.specs.List.{list_all}
use Rattle.std.proofs.lemmas.Bool.{false≢true, and_parts, and_from}
use Rattle.lp_tern.specs.declared.tern.Tern.{Tern}
use Rattle.lp_tern.specs.declared.tern.Tern.TheVariants.{Zero, One, X}
use Rattle.lp_tern.specs.Values.{replacements, agreed}
use Rattle.lp_expr.specs.Formula.{completions}
use Rattle.lp_expr.specs.Replaces.{Keeps, Replaces}
use Rattle.lp_spec_design.specs.Winners.{IsIn}
use Rattle.lp_spec_design.proofs.Members.{in-map, of-map, in-flat, of-flat}

pub all-in : {A : Type 0} (p : A → Bool) (xs : List A) (a : A) → list_all p xs ≡ true → IsIn a xs → p a ≡ true
all-in p [] a e h = absurd h
all-in p (x ∷ xs) a e h = elim h [ inl is ↦ ap p is ∙ (and_parts (p x) (list_all p xs) e).0 | inr rest ↦ all-in p xs a (and_parts (p x) (list_all p xs) e).1 rest ]

pub in-all : {A : Type 0} (p : A → Bool) (xs : List A) → ((a : A) → IsIn a xs → p a ≡ true) → list_all p xs ≡ true
in-all p [] h = refl
in-all p (x ∷ xs) h = and_from (p x) (list_all p xs) (h x (inl refl)) (in-all p xs (λ a m. h a (inr m)))

-- one that fails makes the whole fail
pub one-fails : {A : Type 0} (p : A → Bool) (xs : List A) (a : A) → IsIn a xs → p a ≡ false → list_all p xs ≡ false
one-fails p xs a h f = by (list_all p xs) refl
  where
    by : (b : Bool) → list_all p xs ≡ b → b ≡ false
    by false e = refl
    by true e = absurd (false≢true (sym f ∙ all-in p xs a e h))

-- both say the same, or one of them would follow from the other
same-bool : (a b : Bool) → (a ≡ true → b ≡ true) → (b ≡ true → a ≡ true) → a ≡ b
same-bool true b f g = sym (f refl)
same-bool false true f g = absurd (false≢true (g refl))
same-bool false false f g = refl

same-all : (p : Bool → Bool) (xs ys : List Bool) → ((b : Bool) → IsIn b xs → IsIn b ys) → ((b : Bool) → IsIn b ys → IsIn b xs) → list_all p xs ≡ list_all p ys
same-all p xs ys to from =
    same-bool (list_all p xs) (list_all p ys)
    (λ e. in-all p ys (λ b m. all-in p xs b e (from b m)))
    (λ e. in-all p xs (λ b m. all-in p ys b e (to b m)))

-- lists in which the same outcomes occur agree on the same
pub agreed-same : (xs ys : List Bool) → ((b : Bool) → IsIn b xs → IsIn b ys) → ((b : Bool) → IsIn b ys → IsIn b xs) → agreed xs ≡ agreed ys
agreed-same xs ys to from = λ i. if same-all (λ b. b) xs ys to from i then One else if same-all not xs ys to from i then Zero else X

-- ---- what stands for values

pub in-kept : (t : Tern) (b : Bool) → Keeps t b → IsIn b (replacements t)
in-kept Zero b k = inl k
in-kept One b k = inl k
in-kept X false k = inl refl
in-kept X true k = inr (inl refl)

pub of-kept : (t : Tern) (b : Bool) → IsIn b (replacements t) → Keeps t b
of-kept Zero b (inl e) = e
of-kept Zero b (inr h) = absurd h
of-kept One b (inl e) = e
of-kept One b (inr h) = absurd h
of-kept X b h = tt

pub in-completed : (v : List Tern) (c : List Bool) → Replaces v c → IsIn c (completions v)
in-completed [] [] r = inl refl
in-completed [] (b ∷ c) r = absurd r
in-completed (t ∷ v) [] r = absurd r
in-completed (t ∷ v) (b ∷ c) r =
    in-flat (λ a. map (λ d. a ∷ d) (completions v)) b (b ∷ c) (replacements t) (in-kept t b r.0)
    (in-map (λ d. b ∷ d) c (completions v) (in-completed v c r.1))

pub of-completed : (v : List Tern) (c : List Bool) → IsIn c (completions v) → Replaces v c
of-completed [] c (inl e) = subst (λ d. Replaces [] d) (sym e) tt
of-completed [] c (inr h) = absurd h
of-completed (t ∷ v) c h =
    let first = of-flat (λ a. map (λ d. a ∷ d) (completions v)) c (replacements t) h in
    let rest = of-map (λ d. first.0 ∷ d) c (completions v) first.2 in
    subst (λ d. Replaces (t ∷ v) d) (sym rest.2) (of-kept t first.0 first.1, of-completed v rest.0 rest.1)
