-- Winners, the supplies behind operators, and what passes operators.
use Rattle.std.proofs.Common.{◌≡◌, ℕ, ◌<◌, Bool, true, false, ◌||◌, ◌&&◌, ◌==◌, List, [], ◌∷◌, ◌++◌, Option, Some, inl, inr, refl, sym, ap, ◌∙◌, arith}
use Rattle.std.specs.Prelude.{nat_lt, slice_get}
use Rattle.std.specs.List.{list_all}
use Rattle.std.proofs.lemmas.Bool.{true≢false, eqb-true, ltb-true, or_cases}
use Rattle.lp_spec_design.specs.Netlists.{first}
use Rattle.lp_tern.specs.declared.tern.Tern.{Tern}
use Rattle.lp_tern.specs.declared.tern.Tern.TheVariants.{One, X}
use Rattle.lp_tern.specs.Values.{choose_of}
use Rattle.lp_spec_design.specs.Intents.{SetNumber, Strategy, Intent, Network}
use Rattle.lp_behaviour.specs.Signals.{known}
use Rattle.lp_spec_design.specs.Settled.{Assignment, active, clamped, kept, set_on, through}
use Rattle.lp_spec_design.specs.Winners.{IsIn, beats_all, winner_among}
use Rattle.lp_spec_design.specs.Chains.{Operator, Clamp, Shift, supply_behind, rail_after}

-- what is found passes the test
first_passes : {A : Type 0} (p : A → Bool) (xs : List A) (x : A) → first p xs ≡ Some x → p x ≡ true
first_passes p [] x e = absurd cc
first_passes p (y ∷ xs) x e = by (p y) refl (first_passes p xs x)
  where
    by : (b : Bool) → p y ≡ b → (first p xs ≡ Some x → p x ≡ true) → p x ≡ true
    by true h more = let same : Some y ≡ Some x = rw h at e in let is : y ≡ x = cc in ap p (sym is) ∙ h
    by false h more = more (rw h at e)

all_pass : {A : Type 0} (p : A → Bool) (xs : List A) (y : A) → list_all p xs ≡ true → IsIn y xs → p y ≡ true
all_pass p [] y h among = absurd among
all_pass p (x ∷ xs) y h among = elim among [ inl is ↦ ap p is ∙ head (p x) (list_all p xs) h | inr rest ↦ all_pass p xs y (tail (p x) (list_all p xs) h) rest ]
  where
    head : (a b : Bool) → (a && b) ≡ true → a ≡ true
    head true b e = refl
    head false b e = absurd (true≢false (sym e))

    tail : (a b : Bool) → (a && b) ≡ true → b ≡ true
    tail true b e = e
    tail false b e = absurd (true≢false (sym e))

pub winner_alone : (ranked : Strategy → ℕ) (all : List (ℕ × Strategy)) (x y : ℕ × Strategy) → winner_among ranked all ≡ Some x → IsIn y all → ranked y.1 ≡ ranked x.1 → y.0 ≡ x.0
winner_alone ranked all x y e among same =
    let beats = all_pass (λ z. (z.0 == x.0) || nat_lt (ranked z.1) (ranked x.1)) all y (first_passes (beats_all ranked all) all x e) among in
    elim (or_cases (y.0 == x.0) (nat_lt (ranked y.1) (ranked x.1)) beats) [
      | inl is ↦ eqb-true y.0 x.0 is
      | inr less ↦ let under : ranked y.1 < ranked x.1 = ltb-true (ranked y.1) (ranked x.1) less in absurd (omega arith)
    ]

pub rail_after-append : (r : Option SetNumber) (xs ys : List Operator) → rail_after r (xs ++ ys) ≡ rail_after (rail_after r xs) ys
rail_after-append r [] ys = refl
rail_after-append r (o ∷ xs) ys = rail_after-append (Some (supply_behind o)) xs ys

clamped-active : (A : Assignment) (k : Strategy) (v : Tern) → active A k ≡ One → clamped A (Some k) v ≡ known k.clamp
clamped-active A k v is = ap (λ a. choose_of a (known k.clamp) v) is

pub clamp-holds : (n : Network) (i : Intent) (A : Assignment) (v : Tern) (t : ℕ) (s : SetNumber) (k : Strategy) → slice_get i.strategies t ≡ Some k → active A k ≡ One → set_on n A (Some s) ≡ true → through n i A v (Clamp t s ∷ []) ≡ known k.clamp
clamp-holds n i A v t s k is active-now on =
    ap (λ b. kept b (clamped A (slice_get i.strategies t) v)) on
    ∙ ap (λ x. clamped A x v) is
    ∙ clamped-active A k v active-now

-- what a set that is not on keeps is lost
pub kept-off : (b : Bool) (v : Tern) → b ≡ false → kept b v ≡ X
kept-off b v off = ap (λ x. kept x v) off

and-off : (a b : Bool) → b ≡ false → (a && b) ≡ false
and-off true b off = off
and-off false b off = refl

pub through-off : (n : Network) (i : Intent) (A : Assignment) (r : Option SetNumber) (v : Tern) (operators : List Operator) → (set_on n A r ≡ false → v ≡ X) → set_on n A (rail_after r operators) ≡ false → through n i A v operators ≡ X
through-off n i A r v [] lost off = lost off
through-off n i A r v (Clamp t s ∷ operators) lost off =
    through-off n i A (Some s) (kept (set_on n A (Some s)) (clamped A (slice_get i.strategies t) v)) operators
    (λ h. kept-off (set_on n A (Some s)) (clamped A (slice_get i.strategies t) v) h) off
through-off n i A r v (Shift t a b ∷ operators) lost off =
    through-off n i A (Some b) (kept (set_on n A (Some a) && set_on n A (Some b)) v) operators
    (λ h. kept-off (set_on n A (Some a) && set_on n A (Some b)) v (and-off (set_on n A (Some a)) (set_on n A (Some b)) h)) off

-- behind an operator
pub step-off : (n : Network) (i : Intent) (A : Assignment) (v : Tern) (o : Operator) (operators : List Operator) → set_on n A (rail_after (Some (supply_behind o)) operators) ≡ false → through n i A v (o ∷ operators) ≡ X
step-off n i A v (Clamp t s) operators off =
    through-off n i A (Some s) (kept (set_on n A (Some s)) (clamped A (slice_get i.strategies t) v)) operators
    (λ h. kept-off (set_on n A (Some s)) (clamped A (slice_get i.strategies t) v) h) off
step-off n i A v (Shift t a b) operators off =
    through-off n i A (Some b) (kept (set_on n A (Some a) && set_on n A (Some b)) v) operators
    (λ h. kept-off (set_on n A (Some a) && set_on n A (Some b)) v (and-off (set_on n A (Some a)) (set_on n A (Some b)) h)) off
