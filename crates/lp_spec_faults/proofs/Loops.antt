-- A loop over the places of a line.
use Rattle.std.proofs.Common.{◌≡◌, Bool, true, false, ◌||◌, List, [], ◌∷◌, ◌++◌, Option, Some, None, refl, ap, ◌∙◌}
use Rattle.std.specs.List.{list_any}
use Rattle.std.proofs.lemmas.Bool.{true≢false}
use Rattle.lp_spec_design.specs.Netlists.{first}
use Rattle.lp_spec_faults.specs.Lines.{Line, first_of, HasFirst}

neither_left : (a b : Bool) → (a || b) ≡ false → a ≡ false
neither_left true b e = absurd (true≢false e)
neither_left false b e = refl

neither_right : (a b : Bool) → (a || b) ≡ false → b ≡ false
neither_right true b e = absurd (true≢false e)
neither_right false b e = e

neither : (a b : Bool) → a ≡ false → b ≡ false → (a || b) ≡ false
neither a b e f = ap (λ x. x || b) e ∙ f

module _ {A : Type 0} (test : A → Bool) where
  -- one more place at which the test does not hold
  later : (x : A) (xs : List A) (r : Option A) → test x ≡ false → HasFirst (record { places = xs; test = test }) r → HasFirst (record { places = x ∷ xs; test = test }) r
  later x xs None e h = neither (test x) (list_any test xs) e h
  later x xs (Some y) e h = record { before = x ∷ h.before; after = h.after; parted = ap (λ zs. x ∷ zs) h.parted; holds = h.holds; not_before = neither (test x) (list_any test h.before) e h.not_before }

  here : (x : A) (xs : List A) → test x ≡ true → HasFirst (record { places = x ∷ xs; test = test }) (Some x)
  here x xs e = record { before = []; after = xs; parted = refl; holds = e; not_before = refl }

  has_first_over : (xs : List A) → HasFirst (record { places = xs; test = test }) (first test xs)
  has_first_over [] = refl
  has_first_over (x ∷ xs) = by (test x) refl (has_first_over xs)
    where
      by : (b : Bool) → test x ≡ b → HasFirst (record { places = xs; test = test }) (first test xs) → HasFirst (record { places = x ∷ xs; test = test }) (first test (x ∷ xs))
      by true e more = rw e (here x xs e)
      by false e more = rw e (later x xs (first test xs) e more)

  -- a loop that goes past places at which the test does not hold ...
  passes : (before rest : List A) → list_any test before ≡ false → first test (before ++ rest) ≡ first test rest
  passes [] rest h = refl
  passes (y ∷ before) rest h = rw (neither_left (test y) (list_any test before) h) (passes before rest (neither_right (test y) (list_any test before) h))

  found_here : (x : A) (after : List A) → test x ≡ true → first test (x ∷ after) ≡ Some x
  found_here x after e = rw e refl

  -- ... and stops where it holds has the first one
  stops_over : (before after : List A) (x : A) → list_any test before ≡ false → test x ≡ true → first test (before ++ x ∷ after) ≡ Some x
  stops_over before after x h e = passes before (x ∷ after) h ∙ found_here x after e

  -- a loop that comes to the end has shown that there is none
  ends_over : (xs : List A) → list_any test xs ≡ false → first test xs ≡ None
  ends_over [] h = refl
  ends_over (x ∷ xs) h = rw (neither_left (test x) (list_any test xs) h) (ends_over xs (neither_right (test x) (list_any test xs) h))

pub has_first : {A : Type 0} (l : Line A) → HasFirst l (first_of l)
has_first l = has_first_over l.test l.places

pub stops : {A : Type 0} (l : Line A) (before after : List A) (x : A) → l.places ≡ before ++ x ∷ after → list_any l.test before ≡ false → l.test x ≡ true → first_of l ≡ Some x
stops l before after x parted h e = ap (first l.test) parted ∙ stops_over l.test before after x h e

pub ends : {A : Type 0} (l : Line A) → list_any l.test l.places ≡ false → first_of l ≡ None
ends l h = ends_over l.test l.places h
