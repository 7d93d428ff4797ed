-- A line of the table of faults: the places at which it is asked, in their order, and its test. Its fault is at the first place at which the test holds (own rule).
use Rattle.std.specs.Prelude.{◌≡◌, Bool, true, false, List, ◌∷◌, ◌++◌, Option, Some, None}
use Rattle.std.specs.List.{list_any}
use Rattle.lp_spec_design.specs.Netlists.{first}

pub record Line (A : Type 0) : Type 0 where
  pub places : List A
  pub test : A → Bool

-- the first place at which the test holds, none where it holds at none
abbrev pub first_of : {A : Type 0} → Line A → Option A
first_of l = first l.test l.places

-- the test holds at a place, and at none before it
pub record IsFirstPlace {A : Type 0} (l : Line A) (x : A) : Type 0 where
  pub before : List A
  pub after : List A
  pub parted : l.places ≡ before ++ x ∷ after
  pub holds : l.test x ≡ true
  pub not_before : list_any l.test before ≡ false

abbrev pub HasFirst : {A : Type 0} → Line A → Option A → Type 0
HasFirst l None = list_any l.test l.places ≡ false
HasFirst l (Some x) = IsFirstPlace l x
