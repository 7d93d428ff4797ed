-- Cells that work with one power and one ground (Liberty pg_pin, related_power_pin, power_down_function).
use Rattle.std.specs.Prelude.{ℕ, Bool, true, false, not, ◌&&◌, List, map, Option, Some, None, is_some, is_none, if◌then◌else◌, slice_get}
use Rattle.std.specs.List.{list_all}
use Rattle.lp_expr.specs.Formula.{truth}
use Rattle.lp_model.specs.LibraryView.{ExprView, PgPinView, PinView, StateView, CellView}
use Rattle.lp_spec_design.specs.Keys.{same_bool}
use Rattle.lp_spec_pins.specs.Pins.{is_power, pg_named, level_by}

-- whether a power or ground pin is on, where all power pins and all ground pins are on or not
abbrev pub on_with : Bool → Bool → Option PgPinView → Bool
on_with power gnd None = false
on_with power gnd (Some g) = if is_power g.kind then power else gnd

abbrev pub levels_with : CellView → Bool → Bool → List (List ℕ) → List Bool
levels_with c power gnd names = map (λ v. level_by (pg_named c v) (on_with power gnd (pg_named c v))) names

-- the function is 1 exactly where the power or the ground is not on
abbrev pub is_down_with : CellView → ExprView → Bool → Bool → Bool
is_down_with c e power gnd = same_bool (truth e.steps (levels_with c power gnd e.variables)) (not (power && gnd))

-- a power-down function of the cell's power and ground pins that says where its one supply is not on
abbrev pub follows_supply : CellView → ExprView → Bool
follows_supply c e =
    list_all (λ v. is_some (pg_named c v)) e.variables
    && (is_down_with c e true true && (is_down_with c e true false && (is_down_with c e false true && is_down_with c e false false)))

abbrev pub is_power_at : Option PgPinView → Bool
is_power_at None = false
is_power_at (Some g) = is_power g.kind

abbrev pub is_ground_at : Option PgPinView → Bool
is_ground_at None = false
is_ground_at (Some g) = not (is_power g.kind)

abbrev pub has_ground : CellView → Option ℕ → Bool
has_ground c None = false
has_ground c (Some g) = is_ground_at (slice_get c.pgs g)

-- a pin with a function has a power-down function that follows the supply
abbrev pub follows : CellView → Option ExprView → Option ExprView → Bool
follows c None down = true
follows c (Some f) None = false
follows c (Some f) (Some e) = follows_supply c e

-- a pin relates to a power and a ground pin
abbrev pub is_related_pin : CellView → PinView → Bool
is_related_pin c q = is_power_at (slice_get c.pgs q.power) && has_ground c q.gnd

abbrev pub is_plain_state : CellView → Option StateView → Bool
is_plain_state c None = true
is_plain_state c (Some g) = follows_supply c g.power_down

-- outputs and state are lost exactly where the supply is not on
abbrev pub loses_with_supply : CellView → Bool
loses_with_supply c = list_all (λ (q : PinView). follows c q.function q.power_down) c.pins && is_plain_state c c.state

-- no level shifter, no retention, nothing switched; each pin relates to a power and a ground pin
abbrev pub takes_one_supply : CellView → Bool
takes_one_supply c =
    is_none c.roles.shifter
    && (is_none c.roles.retention
    && (list_all (λ (g : PgPinView). is_none g.switched) c.pgs
    && list_all (is_related_pin c) c.pins))

abbrev pub is_plain_cell : CellView → Bool
is_plain_cell c = takes_one_supply c && loses_with_supply c
