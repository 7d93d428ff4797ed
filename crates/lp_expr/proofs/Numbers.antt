-- Variables and the texts of their numbers.
use Rattle.std.proofs.Common.{◌≡◌, ℕ, suc, ◌+◌, ◌<◌, ◌≤◌, Bool, true, false, cond, List, [], ◌∷◌, ◌++◌, length, Option, Some, None, ◌||◌, refl, sym, ap, ◌∙◌, subst, arith, length-append}
use Rattle.std.specs.Prelude.{if◌then◌else◌, nat_lt, is_some, IsTrue, fold}
use Rattle.std.specs.Option.{option_map}
use Rattle.std.proofs.lemmas.Bool.{lt-ltb, ltb-true}
use Rattle.std.proofs.lemmas.List.{map-append, length-map}
use Rattle.std.proofs.lemmas.List.Folds.{list_all-append}
use Rattle.lp_text.specs.declared.names.NameId.{NameId}
use Rattle.lp_text.specs.Texts.{same_text, has_text, text_at, with_text, place_of, place_of-Some, Grown, Grown-refl, Grown-with_text, Grown-KeepsNumbers}
use Rattle.lp_expr.specs.Denotes.{place_from, texts_of, are_below, Noted, Overflows}
use Rattle.lp_expr.proofs.Found.{conj_left, conj_right, both}

pub is_some-place_from : (k : ℕ) (name : List ℕ) (texts : List (List ℕ)) → is_some (place_from k name texts) ≡ has_text name texts
is_some-place_from k name [] = refl
is_some-place_from k name (t ∷ texts) = by (same_text name t) (is_some-place_from (k + 1) name texts)
  where
    by : (c : Bool) → is_some (place_from (k + 1) name texts) ≡ has_text name texts → is_some (if c then Some k else place_from (k + 1) name texts) ≡ (c || has_text name texts)
    by true e = refl
    by false e = e

-- a number below the old count has its text in the grown table
texts_stay : (old new : List (List ℕ)) → Grown old new → (ids : List NameId) → IsTrue (are_below (length old) ids) → texts_of new ids ≡ texts_of old ids
texts_stay old new grown [] below = refl
texts_stay old new grown (id ∷ ids) below =
    let here : text_at new id.0 ≡ text_at old id.0 = (Grown-KeepsNumbers old new grown).0 id.0 (ltb-true id.0 (length old) (conj_left (nat_lt id.0 (length old)) (are_below (length old) ids) below)) in
    let rest = texts_stay old new grown ids (conj_right (nat_lt id.0 (length old)) (are_below (length old) ids) below) in
    ap (λ t. t ∷ texts_of new ids) here ∙ ap (λ ts. text_at old id.0 ∷ ts) rest

more_below : (n m : ℕ) → n ≤ m → (ids : List NameId) → IsTrue (are_below n ids) → IsTrue (are_below m ids)
more_below n m h [] below = refl
more_below n m h (id ∷ ids) below =
    let low : id.0 < n = ltb-true id.0 n (conj_left (nat_lt id.0 n) (are_below n ids) below) in
    both (nat_lt id.0 m) (are_below m ids) (lt-ltb id.0 m (omega arith)) (more_below n m h ids (conj_right (nat_lt id.0 n) (are_below n ids) below))

-- a name that is there
pub noted_again : (names : List (List ℕ)) (ids : List NameId) (name : List ℕ) → IsTrue (are_below (length names) ids) → length ids ≤ 12 → has_text name (texts_of names ids) ≡ true → Noted names ids (name ∷ []) names ids
noted_again names ids name below few there = record { texts = sym (ap (λ c. cond c (texts_of names ids) (texts_of names ids ++ name ∷ [])) there); below = below; few = few; one_more = omega arith; paid = omega arith; grown = Grown-refl names }

length-with_text : (texts : List (List ℕ)) (name : List ℕ) → (length texts ≤ length (with_text texts name)) × (length (with_text texts name) ≤ length texts + 1)
length-with_text texts name = by (has_text name texts)
  where
    by : (c : Bool) → (length texts ≤ length (if c then texts else texts ++ name ∷ [])) × (length (if c then texts else texts ++ name ∷ []) ≤ length texts + 1)
    by true = (omega arith, omega arith)
    by false = (omega (arith, length-append texts (name ∷ [])), omega (arith, length-append texts (name ∷ [])))

-- a new name
pub noted_new : (names new : List (List ℕ)) (ids : List NameId) (name : List ℕ) (id : NameId) → IsTrue (are_below (length names) ids) → length ids ≤ 12 → (length ids ≡ 12 → ⊥) → has_text name (texts_of names ids) ≡ false → new ≡ with_text names name → place_of name new ≡ Some id.0
    → Noted names ids (name ∷ []) new (ids ++ id ∷ [])
noted_new names new ids name id below few room absent is number =
    let grown : Grown names new = subst (Grown names) (sym is) (Grown-with_text names name) in
    let placed = place_of-Some name new id.0 number in
    let size : (length names ≤ length new) × (length new ≤ length names + 1) = subst (λ (x : List (List ℕ)). (length names ≤ length x) × (length x ≤ length names + 1)) (sym is) (length-with_text names name) in
    let low = size.0 in
    let high = size.1 in
    let ids_size : length (ids ++ id ∷ []) ≡ length ids + 1 = length-append ids (id ∷ []) in
    record {
      texts = map-append (λ (i : NameId). text_at new i.0) ids (id ∷ []) ∙ ap (λ ts. ts ++ text_at new id.0 ∷ []) (texts_stay names new grown ids below) ∙ ap (λ t. texts_of names ids ++ t ∷ []) placed.1 ∙ sym (ap (λ c. cond c (texts_of names ids) (texts_of names ids ++ name ∷ [])) absent);
      below = rw (list_all-append (λ (i : NameId). nat_lt i.0 (length new)) ids (id ∷ []), more_below (length names) (length new) low ids below, lt-ltb id.0 (length new) placed.0) refl;
      few = omega arith;
      one_more = omega arith;
      paid = omega arith;
      grown = grown;
    }

-- a thirteenth name
pub overflow_new : (names : List (List ℕ)) (ids : List NameId) (name : List ℕ) → length ids ≡ 12 → has_text name (texts_of names ids) ≡ false → Overflows names ids (name ∷ []) names
overflow_new names ids name full absent =
    let size : length (texts_of names ids) ≡ 12 = length-map ids (λ (id : NameId). text_at names id.0) ∙ full in
    record { many = rw absent (omega (arith, length-append (texts_of names ids) (name ∷ []))); same = refl }

-- no name
pub noted_none : (names : List (List ℕ)) (ids : List NameId) → IsTrue (are_below (length names) ids) → length ids ≤ 12 → Noted names ids [] names ids
noted_none names ids below few = record { texts = refl; below = below; few = few; one_more = omega arith; paid = omega arith; grown = Grown-refl names }

pub length-fold : (acc more : List (List ℕ)) → length acc ≤ length (fold with_text acc more)
length-fold acc [] = omega arith
length-fold acc (name ∷ more) = let here = (length-with_text acc name).0 in let rest = length-fold (with_text acc name) more in omega arith

fold-append : (acc xs ys : List (List ℕ)) → fold with_text acc (xs ++ ys) ≡ fold with_text (fold with_text acc xs) ys
fold-append acc [] ys = refl
fold-append acc (x ∷ xs) ys = fold-append (with_text acc x) xs ys

-- names that come make 13 of all
pub overflows_all : (old : List (List ℕ)) (before : List NameId) (more rest new all : List (List ℕ)) → Overflows old before more new → fold with_text (texts_of old before) (more ++ rest) ≡ all → 13 ≤ length all
overflows_all old before more rest new all h e =
    let many = h.many in
    let grows = length-fold (fold with_text (texts_of old before) more) rest in
    let same : length (fold with_text (fold with_text (texts_of old before) more) rest) ≡ length all = ap length (sym (fold-append (texts_of old before) more rest) ∙ e) in
    omega arith

place_from-more : (k : ℕ) (name : List ℕ) (texts : List (List ℕ)) → place_from k name texts ≡ option_map (λ j. k + j) (place_of name texts)
place_from-more k name [] = refl
place_from-more k name (t ∷ texts) = by (same_text name t) (place_of name texts) (place_from-more (k + 1) name texts)
  where
    by : (c : Bool) (o : Option ℕ) → place_from (k + 1) name texts ≡ option_map (λ j. k + 1 + j) o → (if c then Some k else place_from (k + 1) name texts) ≡ option_map (λ j. k + j) (if c then Some 0 else option_map suc o)
    by true o e = let same : k ≡ k + 0 = omega arith in ap Some same
    by false None e = e
    by false (Some j) e = let same : k + 1 + j ≡ k + suc j = omega arith in e ∙ ap Some same

pub place_from-zero : (name : List ℕ) (texts : List (List ℕ)) → place_from 0 name texts ≡ place_of name texts
place_from-zero name texts = place_from-more 0 name texts ∙ by (place_of name texts)
  where
    by : (o : Option ℕ) → option_map (λ j. 0 + j) o ≡ o
    by None = refl
    by (Some j) = let same : 0 + j ≡ j = omega arith in ap Some same
