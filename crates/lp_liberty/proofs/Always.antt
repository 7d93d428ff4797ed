-- Where groups may be of any depth, the machine goes on as with a limit, but for the brace of a group that is too deep.
use Rattle.std.proofs.Common.{◌≡◌, ℕ, Bool, true, false, List, [], ◌∷◌, Option, Some, None, refl, ap, ◌∙◌}
use Rattle.std.specs.Prelude.{if◌then◌else◌, option_and_then}
use Rattle.lp_spec_place.specs.Machines.{steps}
use Rattle.lp_liberty.specs.declared.mark.Mark.{Mark}
use Rattle.lp_liberty.specs.declared.mark.Mark.TheVariants as marks
use Rattle.lp_liberty.specs.declared.mark.Mode.{Mode}
use Rattle.lp_liberty.specs.declared.mark.Mode.TheVariants as modes
use Rattle.lp_liberty.specs.Grammar.{Token, Name, Sign, Body, always, below_64}
use Rattle.lp_liberty.specs.Machine.{is_deep_by}
use Rattle.lp_liberty.proofs.Zipper.{Frame, State, step_by, step}

some_else : {A : Type 0} (c : Bool) (x y : A) → (if c then Some x else None) ≡ Some y → Some x ≡ Some y
some_else true x y e = e
some_else false x y e = absurd cc

always_some_by : (fs : List Frame) (d : Body) (mode : Mode) (w : List ℕ) (held : List Token) (t : Token) (u : State) → step_by below_64 fs d mode w held t ≡ Some u → step_by always fs d mode w held t ≡ Some u
always_some_by fs d (modes.Begin semi) w held t u e = e
always_some_by fs d modes.Named w held t u e = e
always_some_by fs d (modes.Args l) w held t u e = e
always_some_by fs d modes.Items w held t u e = e
always_some_by fs d modes.Behind w held (Name q n) u e = e
always_some_by fs d modes.Behind w held (Sign marks.BraceOpen) u e = some_else _ _ _ e
always_some_by fs d modes.Behind w held (Sign marks.ParenOpen) u e = e
always_some_by fs d modes.Behind w held (Sign marks.ParenClose) u e = e
always_some_by fs d modes.Behind w held (Sign marks.BraceClose) u e = e
always_some_by fs d modes.Behind w held (Sign marks.Colon) u e = e
always_some_by fs d modes.Behind w held (Sign marks.Semicolon) u e = e
always_some_by fs d modes.Behind w held (Sign marks.Comma) u e = e
always_some_by fs d modes.Behind w held (Sign marks.LineEnd) u e = e
always_some_by fs d modes.Behind w held (Sign marks.Broken) u e = e

pub always_some : (z : State) (t : Token) (u : State) → step below_64 z t ≡ Some u → step always z t ≡ Some u
always_some z t u e = always_some_by z.frames z.done z.mode z.word z.held t u e

always_none_by : (fs : List Frame) (d : Body) (mode : Mode) (w : List ℕ) (held : List Token) (k : Mark) → is_deep_by mode k ≡ false → step_by below_64 fs d mode w held (Sign k) ≡ None → step_by always fs d mode w held (Sign k) ≡ None
always_none_by fs d (modes.Begin semi) w held k h e = e
always_none_by fs d modes.Named w held k h e = e
always_none_by fs d (modes.Args l) w held k h e = e
always_none_by fs d modes.Items w held k h e = e
always_none_by fs d modes.Behind w held marks.BraceOpen h e = absurd cc
always_none_by fs d modes.Behind w held marks.ParenOpen h e = e
always_none_by fs d modes.Behind w held marks.ParenClose h e = e
always_none_by fs d modes.Behind w held marks.BraceClose h e = e
always_none_by fs d modes.Behind w held marks.Colon h e = e
always_none_by fs d modes.Behind w held marks.Semicolon h e = e
always_none_by fs d modes.Behind w held marks.Comma h e = e
always_none_by fs d modes.Behind w held marks.LineEnd h e = e
always_none_by fs d modes.Behind w held marks.Broken h e = e

pub always_none : (z : State) (k : Mark) → is_deep_by z.mode k ≡ false → step below_64 z (Sign k) ≡ None → step always z (Sign k) ≡ None
always_none z k h e = always_none_by z.frames z.done z.mode z.word z.held k h e

no_name_by : (fs : List Frame) (d : Body) (mode : Mode) (w : List ℕ) (held : List Token) (q : Bool) (n : List ℕ) → step_by below_64 fs d mode w held (Name q n) ≡ None → step_by always fs d mode w held (Name q n) ≡ None
no_name_by fs d (modes.Begin semi) w held q n e = e
no_name_by fs d modes.Named w held q n e = e
no_name_by fs d (modes.Args l) w held q n e = e
no_name_by fs d modes.Items w held q n e = e
no_name_by fs d modes.Behind w held q n e = e

pub no_name : (z : State) (q : Bool) (n : List ℕ) → step below_64 z (Name q n) ≡ None → step always z (Name q n) ≡ None
no_name z q n e = no_name_by z.frames z.done z.mode z.word z.held q n e

-- only the brace behind a group's arguments may be too deep
pub deep_is : (mode : Mode) (k : Mark) → is_deep_by mode k ≡ true → (mode ≡ modes.Behind) × (k ≡ marks.BraceOpen)
deep_is (modes.Begin semi) k e = absurd cc
deep_is modes.Named k e = absurd cc
deep_is (modes.Args l) k e = absurd cc
deep_is modes.Items k e = absurd cc
deep_is modes.Behind marks.ParenOpen e = absurd cc
deep_is modes.Behind marks.ParenClose e = absurd cc
deep_is modes.Behind marks.BraceOpen e = (refl, refl)
deep_is modes.Behind marks.BraceClose e = absurd cc
deep_is modes.Behind marks.Colon e = absurd cc
deep_is modes.Behind marks.Semicolon e = absurd cc
deep_is modes.Behind marks.Comma e = absurd cc
deep_is modes.Behind marks.LineEnd e = absurd cc
deep_is modes.Behind marks.Broken e = absurd cc

pub always_steps : (z u : State) (text : List Token) → steps (step below_64) z text ≡ Some u → steps (step always) z text ≡ Some u
always_steps z u [] e = e
always_steps z u (t ∷ text) e = by (step below_64 z t) refl e (λ v h. always_steps v u text h)
  where
    by : (o : Option State) → step below_64 z t ≡ o → option_and_then (λ v. steps (step below_64) v text) o ≡ Some u → ((v : State) → steps (step below_64) v text ≡ Some u → steps (step always) v text ≡ Some u) → option_and_then (λ v. steps (step always) v text) (step always z t) ≡ Some u
    by None next h more = absurd cc
    by (Some v) next h more = ap (λ o. option_and_then (λ x. steps (step always) x text) o) (always_some z t v next) ∙ more v h
