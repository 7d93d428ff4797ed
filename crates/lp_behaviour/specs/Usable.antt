-- What stands of every cell that may be used (own rule, after the limits of the tool).
use Rattle.std.specs.Prelude.{ℕ, Bool, true, false, ◌&&◌, ◌||◌, ◌==◌, ◌≤◌, is_some, is_none, nat_lt, nat_le, Option, Some, None, length, IsTrue}
use Rattle.std.specs.List.{list_all}
use Rattle.lp_text.specs.declared.names.NameId.{NameId}
use Rattle.lp_expr.specs.Formula.{Formula}
use Rattle.lp_model.specs.declared.library.Action.{Action}
use Rattle.lp_model.specs.declared.library.RetClass.{RetClass}
use Rattle.lp_model.specs.declared.library.RetClass.TheVariants.{Save, Restore, Both}
use Rattle.lp_model.specs.declared.library.PinUse.{PinUse}
use Rattle.lp_model.specs.declared.library.PinUse.TheVariants.{Retain}
use Rattle.lp_model.specs.declared.library.Cell.{Cell}
use Rattle.lp_model.specs.declared.library.Pin.{Pin}
use Rattle.lp_model.specs.declared.library.PgPin.{PgPin}
use Rattle.lp_model.specs.declared.library.Switched.{Switched}
use Rattle.lp_model.specs.declared.library.StateGroup.{StateGroup}
use Rattle.lp_behaviour.specs.Signals.{input_place, pg_place}

-- a retention pin has the actions of its class, and no other one
abbrev pub acts : RetClass → Option Action → Option Action → Bool
acts Save save restore = is_some save && is_none restore
acts Restore save restore = is_none save && is_some restore
acts Both save restore = is_some save && is_some restore

abbrev pub acts_by_class : PinUse → Bool
acts_by_class (Retain class save restore) = acts class save restore
acts_by_class other = true

-- the name is that of the state or of its inverse
abbrev pub is_state_name : Option StateGroup → NameId → Bool
is_state_name None name = false
is_state_name (Some g) name = (g.var.0 == name.0) || (g.inverse.0 == name.0)

-- the name is that of an input pin, of the state or of its inverse
abbrev pub is_signal : Cell → NameId → Bool
is_signal cell name = is_some (input_place cell.pins name) || is_state_name cell.state name

abbrev pub is_pg : Cell → NameId → Bool
is_pg cell name = is_some (pg_place cell.pgs name)

-- each variable of a function stands for something; that they are at most 12 is so of every expression
abbrev pub is_function : (NameId → Bool) → Formula → Bool
is_function stands e = list_all stands e.variables

abbrev pub is_function_if_any : (NameId → Bool) → Option Formula → Bool
is_function_if_any stands None = true
is_function_if_any stands (Some e) = is_function stands e

abbrev pub is_below_if_any : ℕ → Option ℕ → Bool
is_below_if_any count None = true
is_below_if_any count (Some place) = nat_lt place count

-- a signal pin: its functions, its related pins, and when it saves and restores
abbrev pub is_usable_pin : Cell → Pin → Bool
is_usable_pin cell p =
    is_function_if_any (is_signal cell) p.function
    && (is_function_if_any (is_pg cell) p.power_down
    && (nat_lt p.power (length cell.pgs)
    && (is_below_if_any (length cell.pgs) p.gnd
    && acts_by_class p.use_of)))

-- a switched pin is a function of the signals, and passes on a power or ground pin
abbrev pub is_usable_switched : Cell → Option Switched → Bool
is_usable_switched cell None = true
is_usable_switched cell (Some s) = is_function (is_signal cell) s.off && nat_lt s.passes (length cell.pgs)

abbrev pub is_usable_pg : Cell → PgPin → Bool
is_usable_pg cell p = is_usable_switched cell p.switched

abbrev pub is_usable_state : Cell → Option StateGroup → Bool
is_usable_state cell None = true
is_usable_state cell (Some g) =
    is_function (is_signal cell) g.next
    && (is_function (is_signal cell) g.clock
    && (is_function (is_signal cell) g.clear
    && (is_function (is_signal cell) g.preset
    && is_function (is_pg cell) g.power_down)))

-- the parts of a cell pass these tests
abbrev pub passes : Cell → Bool
passes cell =
    nat_le (length cell.pgs) 8
    && (nat_le (length cell.pins) 240
    && (list_all (is_usable_pg cell) cell.pgs
    && (list_all (is_usable_pin cell) cell.pins
    && (is_usable_state cell cell.state
    && is_function_if_any (is_pg cell) cell.roles.retention))))

pub record IsUsable (cell : Cell) : Type 0 where
  pub few_pgs : length cell.pgs ≤ 8
  pub few_pins : length cell.pins ≤ 240
  pub pgs : IsTrue (list_all (is_usable_pg cell) cell.pgs)
  pub pins : IsTrue (list_all (is_usable_pin cell) cell.pins)
  pub state : IsTrue (is_usable_state cell cell.state)
  pub retention : IsTrue (is_function_if_any (is_pg cell) cell.roles.retention)
