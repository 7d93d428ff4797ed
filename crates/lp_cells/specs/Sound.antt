-- What stands of every cell that can be used (own rule): its names, its related pins, its functions and its retention pins.
use Rattle.std.specs.Prelude.{ℕ, Bool, true, ◌&&◌, ◌||◌, if◌then◌else◌, nat_le, nat_lt, List, [], ◌∷◌, ◌++◌, length, map, Option, Some, None, is_some, is_none}
use Rattle.std.specs.List.{filter, list_all}
use Rattle.lp_text.specs.Texts.{has_text, distinct}
use Rattle.lp_model.specs.declared.netlist.Direction.{Direction}
use Rattle.lp_model.specs.declared.netlist.Direction.TheVariants as directions
use Rattle.lp_model.specs.declared.library.PgKind.{PgKind}
use Rattle.lp_model.specs.LibraryView.{ExprView, SwitchedView, PgPinView, PinView, StateView, CellView}
use Rattle.lp_behaviour.specs.Signals.{is_input}
use Rattle.lp_behaviour.specs.Usable.{acts_by_class}
use Rattle.lp_parts.specs.Functions.{kinds_of}
use Rattle.lp_parts.specs.Pins.{floats}
use Rattle.lp_cells.specs.Reasons.{all_names, is_free, is_visible, names_ground, names_power}

-- ---- names

-- each name is visible, the cell's does not begin as those that the tool makes, and those of the pins differ
abbrev pub has_names : CellView → Bool
has_names c = is_free c.name && (list_all is_visible (all_names c.pins c.pgs) && distinct (all_names c.pins c.pgs))

-- the names that a function may have: those of input pins, of the state and of its inverse
abbrev pub state_names : Option StateView → List (List ℕ)
state_names None = []
state_names (Some s) = s.var ∷ s.inverse ∷ []

abbrev pub input_names : List PinView → List (List ℕ)
input_names pins = map (λ (p : PinView). p.name) (filter (λ (p : PinView). is_input p.direction) pins)

abbrev pub signals_of : CellView → List (List ℕ)
signals_of c = input_names c.pins ++ state_names c.state

-- the names that a power_down_function may have
abbrev pub pg_names_of : CellView → List (List ℕ)
pg_names_of c = map (λ (p : PgPinView). p.name) c.pgs

-- ---- functions

-- each name of the function is among these
abbrev pub is_over : List (List ℕ) → ExprView → Bool
is_over names e = list_all (λ n. has_text n names) e.variables

abbrev pub is_over_if_any : List (List ℕ) → Option ExprView → Bool
is_over_if_any names None = true
is_over_if_any names (Some e) = is_over names e

-- an output has a function
abbrev pub has_function : Direction → Option ExprView → Bool
has_function directions.Input function = true
has_function directions.Output function = is_some function

-- ---- pins

-- the related ground pin; the pins of a switch cell without ground pin have none
abbrev pub is_grounded_at : Bool → List PgKind → Option ℕ → Bool
is_grounded_at floating kinds place = if floating then is_none place else names_ground kinds place

abbrev pub has_functions : List (List ℕ) → List (List ℕ) → PinView → Bool
has_functions signals pgs p = has_function p.direction p.function && (is_over_if_any signals p.function && is_over_if_any pgs p.power_down)

-- the related pins are pins of the cell and of their kind, and no bias pins
abbrev pub has_related : Bool → List PgKind → PinView → Bool
has_related floating kinds p = names_power kinds (Some p.power) && is_grounded_at floating kinds p.gnd

-- and a retention pin has the actions of its class, and no other one
abbrev pub is_sound_pin : CellView → PinView → Bool
is_sound_pin c p =
    has_related (floats c.roles.switch c.pgs) (kinds_of c.pgs) p
    && (has_functions (signals_of c) (pg_names_of c) p
    && acts_by_class p.use_of)

-- a switched pin passes on a pin of the cell
abbrev pub is_sound_switched : List (List ℕ) → ℕ → Option SwitchedView → Bool
is_sound_switched signals count None = true
is_sound_switched signals count (Some s) = is_over signals s.off && nat_lt s.passes count

abbrev pub is_sound_pg : CellView → PgPinView → Bool
is_sound_pg c p = is_sound_switched (signals_of c) (length c.pgs) p.switched

abbrev pub is_sound_state : List (List ℕ) → List (List ℕ) → Option StateView → Bool
is_sound_state signals pgs None = true
is_sound_state signals pgs (Some s) =
    is_over signals s.next && (is_over signals s.clock && (is_over signals s.clear && (is_over signals s.preset && is_over pgs s.power_down)))

-- ---- a cell

abbrev pub has_parts : CellView → Bool
has_parts c =
    list_all (is_sound_pg c) c.pgs
    && (list_all (is_sound_pin c) c.pins
    && (is_sound_state (signals_of c) (pg_names_of c) c.state
    && is_over_if_any (pg_names_of c) c.roles.retention))

abbrev pub passes : CellView → Bool
passes c = has_names c && (nat_le (length c.pgs) 8 && (nat_le (length c.pins) 240 && has_parts c))

-- a cell that can be used passes
unfoldable pub is_sound_cell : CellView → Bool
is_sound_cell c = is_some c.unusable || passes c
