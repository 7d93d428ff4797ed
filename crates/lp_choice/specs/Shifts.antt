-- Which cells fit a level shifter, over the numbers of names (own rule).
use Rattle.std.specs.Prelude.{ℕ, Bool, false, not, ◌&&◌, ◌||◌, ◌==◌, if◌then◌else◌, List, [], ◌∷◌, filter, length, Option, Some, None, is_some}
use Rattle.std.specs.List.{list_all, list_any}
use Rattle.std.specs.Option.{option_map}
use Rattle.lp_text.specs.Texts.{text_at}
use Rattle.lp_model.specs.LibraryView.{expr_view}
use Rattle.lp_model.specs.declared.library.PgPin.{PgPin}
use Rattle.lp_model.specs.declared.library.Pin.{Pin}
use Rattle.lp_model.specs.declared.library.Cell.{Cell}
use Rattle.lp_model.specs.declared.library.Roles.{Roles}
use Rattle.lp_model.specs.declared.need.ShiftNeed.{ShiftNeed}
use Rattle.lp_spec_pins.specs.Pins.{only}
use Rattle.lp_spec_fit.specs.Joins.{by_kind}
use Rattle.lp_spec_fit.specs.Fits.{has_function, takes_pairs}
use Rattle.lp_choice.specs.Clamps.{relates}
use Rattle.lp_choice.specs.Parts.{has_part}
use Rattle.lp_choice.specs.declared.parts.Part.TheVariants.{ShiftedData, Output}
use Rattle.lp_choice.specs.Rails.{down_agrees, placed_origins}
use Rattle.lp_choice.specs.Voltages.{is_lower}
use Rattle.lp_choice.specs.Wanted.{either_off_steps, of_four, of_one, of_two, off_steps, pass_steps}
use Rattle.lp_choice.specs.declared.shifts.Wanted.{Wanted}

-- the functions that a shifter has to have
abbrev pub shift_wanted : Wanted
shift_wanted = record { passes = of_one pass_steps; off = of_two off_steps; either_off = of_four either_off_steps }

-- by the places of the related power pins of data and output: the one of the output to the output supply, that of the data, if it is another one, to the input supply
abbrev pub shift_power : ShiftNeed → ℕ → ℕ → ℕ → Option ℕ
shift_power n d y k = if k == y then Some n.output.power.0 else if k == d then Some n.input.power.0 else None

abbrev pub shift_origin : ShiftNeed → ℕ → ℕ → ℕ → PgPin → Option ℕ
shift_origin n d y k g = by_kind (shift_power n d y k) (shift_power n d y k) n.output g.kind

-- a cell that only shifts, with two pins
abbrev pub only_shifts : Roles → Bool
only_shifts r = is_some r.shifter && (not r.iso && (not (is_some r.retention) && not r.switch))

abbrev pub is_shifter : Cell → Bool
is_shifter c = not (is_some c.unusable) && (only_shifts c.roles && (not (is_some c.state) && (length c.pins == 2)))

-- the output relates to the output supply, and is lost with both supplies or with the output supply alone
abbrev pub shifts_out : List (List ℕ) → ShiftNeed → List PgPin → List (Option ℕ) → Pin → Bool
shifts_out texts n pgs origins y =
    relates origins n.output y
    && (list_all is_some origins
    && (down_agrees texts pgs origins (n.input.power.0 ∷ n.input.gnd.0 ∷ n.output.power.0 ∷ n.output.gnd.0 ∷ []) (of_four either_off_steps) y.power_down
    || down_agrees texts pgs origins (n.output.power.0 ∷ n.output.gnd.0 ∷ []) (of_two off_steps) y.power_down))

-- by the places of the related power pins: they are different, or the input supply is never too low for the output supply
abbrev pub may_pass : ShiftNeed → ℕ → ℕ → Bool
may_pass n d y = not (d == y) || not (list_any (is_lower n.margin) n.pairs)

abbrev pub pins_shift : List (List ℕ) → ShiftNeed → List PgPin → Option Pin → Option Pin → Bool
pins_shift texts n pgs (Some d) (Some y) =
    may_pass n d.power y.power
    && (has_function (text_at texts d.name.0 ∷ []) (λ v. v (text_at texts d.name.0)) (option_map (expr_view texts) y.function)
    && shifts_out texts n pgs (placed_origins (shift_origin n d.power y.power) 0 pgs) y)
pins_shift texts n pgs _ _ = false

abbrev pub shift_fits : List (List ℕ) → ShiftNeed → Cell → Bool
shift_fits texts n c =
    is_shifter c
    && (takes_pairs n.pairs c.roles.shifter
    && pins_shift texts n c.pgs (only (filter (has_part ShiftedData) c.pins)) (only (filter (has_part Output) c.pins)))
