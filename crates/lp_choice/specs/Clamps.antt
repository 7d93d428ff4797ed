-- Which cells fit a clamp, over the numbers of names (own rule).
use Rattle.std.specs.Prelude.{ℕ, Bool, true, false, not, ◌&&◌, ◌==◌, if◌then◌else◌, List, [], ◌∷◌, map, filter, length, Option, Some, None, is_some, slice_get}
use Rattle.std.specs.List.{list_all, list_any}
use Rattle.std.specs.Option.{option_map}
use Rattle.lp_expr.specs.Formula.{truth}
use Rattle.lp_text.specs.Texts.{text_at}
use Rattle.lp_model.specs.LibraryView.{expr_view}
use Rattle.lp_model.specs.declared.library.PgKind.{PgKind}
use Rattle.lp_model.specs.declared.library.PgKind.TheVariants.{BackupPower}
use Rattle.lp_model.specs.declared.library.PgPin.{PgPin}
use Rattle.lp_model.specs.declared.library.Pin.{Pin}
use Rattle.lp_model.specs.declared.library.Cell.{Cell}
use Rattle.lp_model.specs.declared.library.Roles.{Roles}
use Rattle.lp_model.specs.declared.need.IsoNeed.{IsoNeed}
use Rattle.lp_model.specs.declared.supply.SetOrigins.{SetOrigins}
use Rattle.lp_spec_pins.specs.Pins.{only}
use Rattle.lp_spec_fit.specs.Joins.{by_kind, is_origin}
use Rattle.lp_spec_fit.specs.Fits.{has_function}
use Rattle.lp_choice.specs.Rails.{down_agrees}
use Rattle.lp_choice.specs.Parts.{has_part}
use Rattle.lp_choice.specs.declared.parts.Part.TheVariants.{ClampedData, Enable, Output}
use Rattle.lp_choice.specs.Wanted.{clamp_steps, off_steps, of_two}

abbrev pub is_backup : PgPin → Bool
is_backup g = by g.kind
  where
    by : PgKind → Bool
    by BackupPower = true
    by _ = false

abbrev pub clamp_origin : IsoNeed → Bool → PgPin → Option ℕ
clamp_origin n backup g =
    if backup then by_kind (Some n.place.power.0) (Some n.supply.power.0) n.place g.kind
    else by_kind (Some n.supply.power.0) None n.supply g.kind

abbrev pub clamp_origins : IsoNeed → List PgPin → List (Option ℕ)
clamp_origins n pgs = map (clamp_origin n (list_any is_backup pgs)) pgs

-- the pin of a number is joined to an origin
abbrev pub joins_to : ℕ → Option (Option ℕ) → Bool
joins_to o None = false
joins_to o (Some joined) = is_origin o joined

abbrev pub grounds_to : List (Option ℕ) → ℕ → Option ℕ → Bool
grounds_to origins o None = false
grounds_to origins o (Some k) = joins_to o (slice_get origins k)

-- the related pins of a signal pin are joined to a set
abbrev pub relates : List (Option ℕ) → SetOrigins → Pin → Bool
relates origins set q = joins_to set.power.0 (slice_get origins q.power) && grounds_to origins set.gnd.0 q.gnd

-- a cell that only isolates, with three pins
abbrev pub only_isolates : Roles → Bool
only_isolates r = r.iso && (not (is_some r.shifter) && (not (is_some r.retention) && not r.switch))

abbrev pub is_clamp : Cell → Bool
is_clamp c = not (is_some c.unusable) && (only_isolates c.roles && (not (is_some c.state) && (length c.pins == 3)))

abbrev pub pins_clamp : List (List ℕ) → IsoNeed → Cell → Option Pin → Option Pin → Option Pin → Bool
pins_clamp texts n c (Some d) (Some e) (Some y) = by (text_at texts d.name.0 ∷ text_at texts e.name.0 ∷ []) (clamp_origins n c.pgs)
  where
    by : List (List ℕ) → List (Option ℕ) → Bool
    by names origins =
        has_function names (λ v. truth (clamp_steps n.clamp n.high) (map v names)) (option_map (expr_view texts) y.function)
        && (list_all (relates origins n.supply) c.pins
        && (list_all is_some origins
        && down_agrees texts c.pgs origins (n.supply.power.0 ∷ n.supply.gnd.0 ∷ []) (of_two off_steps) y.power_down))
pins_clamp texts n c _ _ _ = false

abbrev pub clamp_fits : List (List ℕ) → IsoNeed → Cell → Bool
clamp_fits texts n c =
    is_clamp c
    && pins_clamp texts n c (only (filter (has_part ClampedData) c.pins)) (only (filter (has_part Enable) c.pins)) (only (filter (has_part Output) c.pins))
