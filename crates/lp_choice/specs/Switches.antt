-- Which cells fit a power switch, over the numbers of names (own rule).
use Rattle.std.specs.Prelude.{ℕ, ◌+◌, Bool, true, false, not, ◌&&◌, ◌==◌, List, [], ◌∷◌, ◌++◌, filter, Option, Some, is_some, option_and_then}
use Rattle.lp_text.specs.Texts.{text_at}
use Rattle.lp_expr.specs.Formula.{Formula, truth}
use Rattle.lp_expr.specs.declared.step.Step.TheVariants.{Not}
use Rattle.lp_model.specs.LibraryView.{expr_view, pin_view}
use Rattle.lp_model.specs.declared.library.PgKind.{PgKind}
use Rattle.lp_model.specs.declared.library.PgKind.TheVariants.{PrimaryPower, BackupPower, InternalPower}
use Rattle.lp_model.specs.declared.library.PgPin.{PgPin}
use Rattle.lp_model.specs.declared.library.Pin.{Pin}
use Rattle.lp_model.specs.declared.library.Switched.{Switched}
use Rattle.lp_model.specs.declared.library.Cell.{Cell}
use Rattle.lp_spec_pins.specs.Pins.{only}
use Rattle.lp_spec_fit.specs.Fits.{has_function, is_switch_pin}
use Rattle.lp_choice.specs.Parts.{has_part}
use Rattle.lp_choice.specs.declared.parts.Part.TheVariants.{Control}

-- that a function is 0
abbrev pub complement : Formula → Formula
complement e = record { variables = e.variables; steps = e.steps ++ Not ∷ [] }

-- the cell drives the pin
abbrev pub is_driven : PgPin → Bool
is_driven g = is_some g.switched

-- how a cell drives the one pin that it drives
abbrev pub only_switched : List PgPin → Option Switched
only_switched pgs = option_and_then (λ (g : PgPin). g.switched) (only (filter is_driven pgs))

-- by its place, a pin has a side where the switch passes the pin of a place on: no power pin but that one and the switched one has any
abbrev pub has_side : ℕ → ℕ → PgPin → Bool
has_side passes k g = by g.kind
  where
    by : PgKind → Bool
    by PrimaryPower = k == passes
    by BackupPower = false
    by InternalPower = is_some g.switched
    by _ = true

abbrev pub have_sides : ℕ → ℕ → List PgPin → Bool
have_sides passes k [] = true
have_sides passes k (g ∷ gs) = has_side passes k g && have_sides passes (k + 1) gs

-- a cell that switches and has no state
abbrev pub is_switch : Cell → Bool
is_switch c = not (is_some c.unusable) && (c.roles.switch && not (is_some c.state))

-- where a switch is to be off where a function of its control is 1
abbrev pub pins_switch : List (List ℕ) → Formula → List PgPin → Option Pin → Option Switched → Bool
pins_switch texts off pgs (Some q) (Some s) =
    is_switch_pin (pin_view [] q)
    && ((q.power == s.passes)
    && (have_sides s.passes 0 pgs
    && has_function (text_at texts q.name.0 ∷ []) (λ v. truth off.steps (v (text_at texts q.name.0) ∷ [])) (Some (expr_view texts s.off))))
pins_switch texts off pgs _ _ = false

abbrev pub switch_fits : List (List ℕ) → Formula → Cell → Bool
switch_fits texts off c = is_switch c && pins_switch texts off c.pgs (only (filter (has_part Control) c.pins)) (only_switched c.pgs)
