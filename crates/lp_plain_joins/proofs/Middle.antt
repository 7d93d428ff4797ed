-- Lists with two more in the middle.
use Rattle.std.proofs.Common.{◌≡◌, ℕ, Bool, true, false, not, cond, List, [], ◌∷◌, ◌++◌, map, Some, refl, sym, ◌∙◌, ap}
use Rattle.std.specs.List.{list_all}
use Rattle.std.specs.Map.{lookup}
use Rattle.std.proofs.lemmas.Bool.{both_ways, and_parts, and_from, or_parts, or_from, not-true, false_from_ne_true}
use Rattle.std.proofs.lemmas.List.Folds.{list_all-append}
use Rattle.lp_text.specs.Texts.{same_text, same_text_comm, has_text, has_text-append, distinct}
use Rattle.lp_spec_plain_netlist.proofs.Names.{has-passes}

pub all-two : {A : Type 0} (p : A → Bool) (xs ys : List A) (a b : A) → list_all p (xs ++ ys) ≡ true → p a ≡ true → p b ≡ true → list_all p (xs ++ a ∷ b ∷ ys) ≡ true
all-two p [] ys a b all e f = and_from (p a) _ e (and_from (p b) _ f all)
all-two p (x ∷ xs) ys a b all e f =
    let parts = and_parts (p x) (list_all p (xs ++ ys)) all in
    and_from (p x) _ parts.0 (all-two p xs ys a b parts.1 e f)

pub all-both : {A : Type 0} (p : A → Bool) (xs ys : List A) → list_all p xs ≡ true → list_all p ys ≡ true → list_all p (xs ++ ys) ≡ true
all-both p xs ys e f = list_all-append p xs ys ∙ and_from (list_all p xs) (list_all p ys) e f

-- ---- distinct names

distinct-one : (xs ys : List (List ℕ)) (a : List ℕ) → distinct (xs ++ ys) ≡ true → has_text a (xs ++ ys) ≡ false → distinct (xs ++ a ∷ ys) ≡ true
distinct-one [] ys a apart absent = and_from (not (has_text a ys)) (distinct ys) (ap not absent) apart
distinct-one (x ∷ xs) ys a apart absent =
    let parts = and_parts (not (has_text x (xs ++ ys))) (distinct (xs ++ ys)) apart in
    let others = or_parts (same_text a x) (has_text a (xs ++ ys)) absent in
    let here = or_parts (has_text x xs) (has_text x ys) (sym (has_text-append x xs ys) ∙ not-true (has_text x (xs ++ ys)) parts.0) in
    and_from (not (has_text x (xs ++ a ∷ ys))) _
    (ap not (has_text-append x xs (a ∷ ys) ∙ or_from (has_text x xs) _ here.0 (or_from (same_text x a) _ (same_text_comm x a ∙ others.0) here.1)))
    (distinct-one xs ys a parts.1 others.1)

pub distinct-two : (xs ys : List (List ℕ)) (a b : List ℕ) → distinct (xs ++ ys) ≡ true → has_text a (xs ++ ys) ≡ false → has_text b (xs ++ ys) ≡ false → same_text a b ≡ false → distinct (xs ++ a ∷ b ∷ ys) ≡ true
distinct-two xs ys a b apart absent absent_too differ =
    let parts = or_parts (has_text a xs) (has_text a ys) (sym (has_text-append a xs ys) ∙ absent) in
    distinct-one xs (b ∷ ys) a (distinct-one xs ys b apart absent_too)
    (has_text-append a xs (b ∷ ys) ∙ or_from (has_text a xs) _ parts.0 (or_from (same_text a b) _ differ parts.1))

-- lists of which no name is in both
pub distinct-both : (xs ys : List (List ℕ)) → distinct xs ≡ true → distinct ys ≡ true → list_all (λ x. not (has_text x ys)) xs ≡ true → distinct (xs ++ ys) ≡ true
distinct-both [] ys d e all = e
distinct-both (x ∷ xs) ys d e all =
    let parts = and_parts (not (has_text x xs)) (distinct xs) d in
    let others = and_parts (not (has_text x ys)) (list_all (λ k. not (has_text k ys)) xs) all in
    and_from (not (has_text x (xs ++ ys))) _
    (ap not (has_text-append x xs ys ∙ or_from (has_text x xs) _ (not-true (has_text x xs) parts.0) (not-true (has_text x ys) others.0)))
    (distinct-both xs ys parts.1 e others.1)

-- a name that fails a test is not among names that pass it
pub absent-fails : (p : List ℕ → Bool) (n : List ℕ) (xs : List (List ℕ)) → list_all p xs ≡ true → p n ≡ false → has_text n xs ≡ false
absent-fails p n xs all e = false_from_ne_true (has_text n xs) (λ h. both_ways (p n) e (has-passes p n xs all h))

-- ---- declarations

module _ {V : Type 0} (n : List ℕ) where
  pub lookup-two : (xs ys : List (List ℕ × V)) (a b : List ℕ × V) → same_text n a.0 ≡ false → same_text n b.0 ≡ false → lookup (same_text n) (xs ++ a ∷ b ∷ ys) ≡ lookup (same_text n) (xs ++ ys)
  lookup-two [] ys a b e f = rw (e, f) refl
  lookup-two (x ∷ xs) ys a b e f = ap (λ r. cond (same_text n x.0) (Some x.1) r) (lookup-two xs ys a b e f)

  pub lookup-behind : (xs ys : List (List ℕ × V)) → has_text n (map (λ e. e.0) xs) ≡ false → lookup (same_text n) (xs ++ ys) ≡ lookup (same_text n) ys
  lookup-behind [] ys absent = refl
  lookup-behind (x ∷ xs) ys absent =
      let parts = or_parts (same_text n x.0) (has_text n (map (λ e. e.0) xs)) absent in
      ap (λ b. cond b (Some x.1) (lookup (same_text n) (xs ++ ys))) parts.0 ∙ lookup-behind xs ys parts.1
