-- Texts as lists of bytes: whether one is among others, where, and whether all differ.
use Rattle.std.specs.Prelude.{◌≡◌, ◌<◌, ℕ, zero, suc, Bool, true, false, not, ◌&&◌, ◌||◌, List, [], ◌∷◌, ◌++◌, length, Option, None, Some, is_some, if◌then◌else◌, slice_index_or}
use Rattle.std.specs.List.{list_any}
use Rattle.std.specs.Option.{option_map}
use Rattle.std.specs.Str.{bytes_eq}
use Rattle.std.proofs.Common.{refl, sym, ap, ◌∙◌, subst, inl, inr, arith, append_assoc}
use Rattle.std.proofs.lemmas.Bool.{cases_Bool, true≢false}
use Rattle.std.proofs.lemmas.List.{append-nil}
use Rattle.std.proofs.Math.ListN.{get_or-append}
use Rattle.std.proofs.lemmas.Bool.Decides.{same_from_decides}
use Rattle.std.proofs.lemmas.List.Folds.{list_any-append, list_any_at}
use Rattle.std.proofs.lemmas.Slice.Eq.{bytes_eq-Decides}

-- whether two texts are equal
abbrev pub same_text : List ℕ → List ℕ → Bool
same_text = bytes_eq

-- whether a text is one of the texts
abbrev pub has_text : List ℕ → List (List ℕ) → Bool
has_text text texts = list_any (same_text text) texts

-- the first place at which a text stands
abbrev pub place_of : List ℕ → List (List ℕ) → Option ℕ
place_of text [] = None
place_of text (t ∷ ts) = if same_text text t then Some 0 else option_map suc (place_of text ts)

-- whether no text stands at two places
abbrev pub distinct : List (List ℕ) → Bool
distinct [] = true
distinct (t ∷ ts) = not (has_text t ts) && distinct ts

-- the texts with one more behind them, where it is not among them yet
abbrev pub with_text : List (List ℕ) → List ℕ → List (List ℕ)
with_text texts text = if has_text text texts then texts else texts ++ text ∷ []

-- the text of a number
abbrev pub text_at : List (List ℕ) → ℕ → List ℕ
text_at texts place = slice_index_or texts place []

-- the texts with more behind them
pub record Grown (old new : List (List ℕ)) : Type 0 where
  pub more : List (List ℕ)
  pub is : new ≡ old ++ more

-- what stands in a table says the same of its numbers when the table has grown
abbrev pub KeepsNumbers : List (List ℕ) → List (List ℕ) → Type 0
KeepsNumbers old new = ((place : ℕ) → place < length old → text_at new place ≡ text_at old place) × ((text : List ℕ) (place : ℕ) → place_of text old ≡ Some place → place_of text new ≡ Some place)

-- `same_text` is equality
pub same_text-true : (a b : List ℕ) → same_text a b ≡ true → a ≡ b
same_text-true a b e = (bytes_eq-Decides a b).0 e

pub true-same_text : (a b : List ℕ) → a ≡ b → same_text a b ≡ true
true-same_text a b e = (bytes_eq-Decides a b).1 e

pub same_text_comm : (a b : List ℕ) → same_text a b ≡ same_text b a
same_text_comm a b = same_from_decides (same_text a b) (same_text b a) (bytes_eq-Decides a b) ((λ e. sym (same_text-true b a e)), (λ e. true-same_text b a (sym e)))

pub has_text-append : (text : List ℕ) (xs ys : List (List ℕ)) → has_text text (xs ++ ys) ≡ (has_text text xs || has_text text ys)
has_text-append text xs ys = list_any-append (same_text text) xs ys

-- the text at a place is there
pub has_text-at : (texts : List (List ℕ)) (place : ℕ) → place < length texts → has_text (slice_index_or texts place []) texts ≡ true
has_text-at texts place h =
    let text = slice_index_or texts place [] in
    list_any_at (same_text text) texts place [] h (true-same_text text text refl)

not_or : (a b c d : Bool) → (not (a || (b || false)) && (not c && d)) ≡ ((not (b || c)) && (not a && d))
not_or true true c d = refl
not_or true false true d = refl
not_or true false false d = refl
not_or false true c d = refl
not_or false false c d = refl

-- one more text
pub distinct-push : (texts : List (List ℕ)) (text : List ℕ) → distinct (texts ++ text ∷ []) ≡ (not (has_text text texts) && distinct texts)
distinct-push [] text = refl
distinct-push (t ∷ ts) text =
    rw (has_text-append t ts (text ∷ []), distinct-push ts text, same_text_comm t text) (not_or (has_text t ts) (same_text text t) (has_text text ts) (distinct ts))

and_true : (a b : Bool) → (a && b) ≡ true → (a ≡ true) × (b ≡ true)
and_true true b e = (refl, e)
and_true false b e = absurd (true≢false (sym e))

not_or_left : (a b : Bool) → not (a || b) ≡ true → not a ≡ true
not_or_left true b e = e
not_or_left false b e = refl

-- a part of distinct texts is distinct
pub distinct-append_left : (xs ys : List (List ℕ)) → distinct (xs ++ ys) ≡ true → distinct xs ≡ true
distinct-append_left [] ys e = refl
distinct-append_left (x ∷ xs) ys e =
    let both = and_true (not (has_text x (xs ++ ys))) (distinct (xs ++ ys)) e in
    let absent = not_or_left (has_text x xs) (has_text x ys) (ap not (sym (has_text-append x xs ys)) ∙ both.0) in
    rw (absent) (distinct-append_left xs ys both.1)

pub distinct-append_right : (xs ys : List (List ℕ)) → distinct (xs ++ ys) ≡ true → distinct ys ≡ true
distinct-append_right [] ys e = e
distinct-append_right (x ∷ xs) ys e = distinct-append_right xs ys (and_true (not (has_text x (xs ++ ys))) (distinct (xs ++ ys)) e).1

-- a text that comes again
pub distinct-repeated : (xs : List (List ℕ)) (text : List ℕ) (ys : List (List ℕ)) → has_text text xs ≡ true → distinct (xs ++ text ∷ ys) ≡ false
distinct-repeated xs text ys e =
    elim (cases_Bool (distinct (xs ++ text ∷ ys))) [
      | inr apart_not ↦ apart_not
      | inl apart ↦
          let front = distinct-append_left (xs ++ text ∷ []) ys (ap distinct (append_assoc xs (text ∷ []) ys) ∙ apart) in
          let absent = (and_true (not (has_text text xs)) (distinct xs) (sym (distinct-push xs text) ∙ front)).0 in
          absurd (true≢false (sym absent ∙ ap not e))
    ]

-- a found text is at its place
pub place_of-Some : (text : List ℕ) (texts : List (List ℕ)) (place : ℕ) → place_of text texts ≡ Some place → (place < length texts) × (slice_index_or texts place [] ≡ text)
place_of-Some text [] place e = cc
place_of-Some text (t ∷ ts) place e = by (same_text text t) refl (place_of text ts) refl (place_of-Some text ts)
  where
    by : (b : Bool) → same_text text t ≡ b → (r : Option ℕ) → place_of text ts ≡ r → ((k : ℕ) → place_of text ts ≡ Some k → (k < length ts) × (slice_index_or ts k [] ≡ text)) → (place < length (t ∷ ts)) × (slice_index_or (t ∷ ts) place [] ≡ text)
    by true s r p found =
        let here : Some 0 ≡ Some place = rw s at e in
        let zero_is : 0 ≡ place = cc in
        (omega arith, subst (λ k. slice_index_or (t ∷ ts) k [] ≡ text) zero_is (sym (same_text-true text t s)))
    by false s None p found = let gone : None ≡ Some place = rw (s, p) at e in cc
    by false s (Some k) p found =
        let there : Some (suc k) ≡ Some place = rw (s, p) at e in
        let suc_is : suc k ≡ place = cc in
        let behind = found k p in
        (omega (arith, behind.0), subst (λ j. slice_index_or (t ∷ ts) j [] ≡ text) suc_is behind.1)

-- a text has a place exactly where it is one of the texts
pub is_some-place_of : (text : List ℕ) (texts : List (List ℕ)) → is_some (place_of text texts) ≡ has_text text texts
is_some-place_of text [] = refl
is_some-place_of text (t ∷ ts) = by (same_text text t) refl (place_of text ts) (is_some-place_of text ts)
  where
    by : (b : Bool) → same_text text t ≡ b → (r : Option ℕ) → is_some r ≡ has_text text ts → is_some (if b then Some 0 else option_map suc r) ≡ (b || has_text text ts)
    by true s r e = refl
    by false s None e = e
    by false s (Some k) e = e

pub place_of-None : (text : List ℕ) (texts : List (List ℕ)) → place_of text texts ≡ None → has_text text texts ≡ false
place_of-None text texts e = sym (is_some-place_of text texts) ∙ ap is_some e

pub None-place_of : (text : List ℕ) (texts : List (List ℕ)) → has_text text texts ≡ false → place_of text texts ≡ None
None-place_of text texts e = by (place_of text texts) refl
  where
    by : (r : Option ℕ) → place_of text texts ≡ r → place_of text texts ≡ None
    by None p = p
    by (Some k) p = absurd (true≢false (sym (ap is_some p) ∙ is_some-place_of text texts ∙ e))

-- texts behind change no place
pub place_of-append_left : (text : List ℕ) (xs ys : List (List ℕ)) (place : ℕ) → place_of text xs ≡ Some place → place_of text (xs ++ ys) ≡ Some place
place_of-append_left text [] ys place e = cc
place_of-append_left text (x ∷ xs) ys place e = by (same_text text x) refl (place_of text xs) refl (place_of-append_left text xs ys)
  where
    by : (b : Bool) → same_text text x ≡ b → (r : Option ℕ) → place_of text xs ≡ r → ((k : ℕ) → place_of text xs ≡ Some k → place_of text (xs ++ ys) ≡ Some k) → place_of text ((x ∷ xs) ++ ys) ≡ Some place
    by true s r p kept = let here : Some 0 ≡ Some place = rw s at e in rw s here
    by false s None p kept = let gone : None ≡ Some place = rw (s, p) at e in cc
    by false s (Some k) p kept =
        let there : Some (suc k) ≡ Some place = rw (s, p) at e in
        rw (s, kept k p) there

-- a new text stands behind the others
pub place_of-push : (texts : List (List ℕ)) (text : List ℕ) → has_text text texts ≡ false → place_of text (texts ++ text ∷ []) ≡ Some (length texts)
place_of-push [] text e = rw (true-same_text text text refl) refl
place_of-push (t ∷ ts) text e = by (same_text text t) refl (place_of-push ts text)
  where
    by : (b : Bool) → same_text text t ≡ b → (has_text text ts ≡ false → place_of text (ts ++ text ∷ []) ≡ Some (length ts)) → place_of text ((t ∷ ts) ++ text ∷ []) ≡ Some (suc (length ts))
    by true s last = let no : true ≡ false = rw s at e in absurd (true≢false no)
    by false s last = let absent : has_text text ts ≡ false = rw s at e in rw (s, last absent) refl

-- each of distinct texts stands at its own place alone
pub place_of-distinct : (texts : List (List ℕ)) (place : ℕ) → distinct texts ≡ true → place < length texts → place_of (slice_index_or texts place []) texts ≡ Some place
place_of-distinct [] place d h = absurd (omega arith)
place_of-distinct (t ∷ ts) zero d h = rw (true-same_text t t refl) refl
place_of-distinct (t ∷ ts) (suc k) d h = by (same_text (slice_index_or ts k []) t) refl (place_of-distinct ts k both.1 within)
  where
    both : (not (has_text t ts) ≡ true) × (distinct ts ≡ true)
    both = and_true (not (has_text t ts)) (distinct ts) d

    within : k < length ts
    within = omega arith

    by : (b : Bool) → same_text (slice_index_or ts k []) t ≡ b → place_of (slice_index_or ts k []) ts ≡ Some k → place_of (slice_index_or ts k []) (t ∷ ts) ≡ Some (suc k)
    by true s behind =
        let twice : has_text t ts ≡ true = subst (λ x. has_text x ts ≡ true) (same_text-true (slice_index_or ts k []) t s) (has_text-at ts k within) in
        absurd (true≢false (sym both.0 ∙ ap not twice))
    by false s behind = rw (s, behind) refl

-- one more text is growth
pub Grown-with_text : (texts : List (List ℕ)) (text : List ℕ) → Grown texts (with_text texts text)
Grown-with_text texts text = by (has_text text texts)
  where
    by : (b : Bool) → Grown texts (if b then texts else texts ++ text ∷ [])
    by true = record { more = []; is = sym (append-nil texts) }
    by false = record { more = text ∷ []; is = refl }

pub Grown-refl : (texts : List (List ℕ)) → Grown texts texts
Grown-refl texts = record { more = []; is = sym (append-nil texts) }

pub Grown-trans : {a b c : List (List ℕ)} → Grown a b → Grown b c → Grown a c
Grown-trans {a} {b} {c} first second = record { more = first.more ++ second.more; is = second.is ∙ ap (λ xs. xs ++ second.more) first.is ∙ append_assoc a first.more second.more }

pub Grown-KeepsNumbers : (old new : List (List ℕ)) → Grown old new → KeepsNumbers old new
Grown-KeepsNumbers old new grown = (
  (λ place h. ap (λ texts. text_at texts place) grown.is ∙ get_or-append old grown.more [] place h),
  (λ text place e. ap (place_of text) grown.is ∙ place_of-append_left text old grown.more place e),
)
