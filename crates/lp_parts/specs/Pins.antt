-- The pins of a cell (Liberty pg_pin and pin).
use Rattle.std.specs.Prelude.{ℕ, Bool, true, false, not, ◌&&◌, List, [], ◌∷◌, map, Option, Some, None, unwrap_or, is_none, if◌then◌else◌, codes, slice_get, drop}
use Rattle.std.specs.List.{list_any, enumerate_from, filter, flat_map, find}
use Rattle.std.specs.Option.{option_map}
use Rattle.std.specs.Prelude.{option_and_then}
use Rattle.lp_text.specs.Texts.{place_of}
use Rattle.lp_model.specs.declared.netlist.Direction.{Direction}
use Rattle.lp_model.specs.declared.netlist.Direction.TheVariants as directions
use Rattle.lp_model.specs.declared.library.PgKind.{PgKind}
use Rattle.lp_model.specs.declared.library.PgKind.TheVariants as kinds
use Rattle.lp_model.specs.declared.library.PinUse.{PinUse}
use Rattle.lp_model.specs.declared.library.PinUse.TheVariants as uses
use Rattle.lp_model.specs.declared.library.Action.{Action}
use Rattle.lp_model.specs.declared.library.RetClass.{RetClass}
use Rattle.lp_model.specs.declared.library.RetClass.TheVariants as classes
use Rattle.lp_model.specs.GroupsView.{GroupView}
use Rattle.lp_model.specs.LibraryView.{ExprView, SwitchedView, PgPinView, PinView}
use Rattle.lp_attributes.specs.Attributes.{value_of, values_of, says}
use Rattle.lp_attributes.specs.Expressions.{expression_over}
use Rattle.lp_attributes.specs.Words.{pg_kind, action, class}
use Rattle.lp_parts.specs.Source.{is_part, arg_at}
use Rattle.lp_parts.specs.Names.{is_output}
use Rattle.lp_parts.specs.Functions.{is_ground, kinds_of, over_if_any, down_of, passed, small}

-- ---- power and ground pins

abbrev pub kind_if_any : Option (List ℕ) → Option PgKind
kind_if_any None = None
kind_if_any (Some text) = pg_kind text

abbrev pub kind_of : GroupView → Option PgKind
kind_of g = kind_if_any (value_of (codes "pg_type") g)

-- an internal power pin with a switch_function and a pg_function is switched; elsewhere both are skipped
abbrev pub switched_by : List (List ℕ) → List (List ℕ) → Option (List ℕ) → Option (List ℕ) → Option SwitchedView
switched_by signals pgs None passes = None
switched_by signals pgs off None = None
switched_by signals pgs (Some off) (Some passes) = Some (record { off = over_if_any signals (Some off); passes = small (passed pgs passes) })

abbrev pub is_internal_power : Option PgKind → Bool
is_internal_power (Some kinds.InternalPower) = true
is_internal_power _ = false

abbrev pub switched_of : List (List ℕ) → List (List ℕ) → GroupView → Option SwitchedView
switched_of signals pgs g =
    if is_internal_power (kind_of g) then switched_by signals pgs (value_of (codes "switch_function") g) (value_of (codes "pg_function") g) else None

abbrev pub pg_of : List (List ℕ) → List (List ℕ) → GroupView → PgPinView
pg_of signals pgs g = record {
  name = arg_at 0 g;
  kind = unwrap_or (kind_of g) kinds.PrimaryPower;
  switched = switched_of signals pgs g;
}

abbrev pub pgs_at : ℕ → List (List ℕ) → List (List ℕ) → GroupView → List PgPinView
pgs_at place signals pgs g = if is_part place (codes "pg_pin") g then pg_of signals pgs g ∷ [] else []

abbrev pub pgs_of : ℕ → List (List ℕ) → List (List ℕ) → List GroupView → List PgPinView
pgs_of place signals pgs groups = flat_map (pgs_at place signals pgs) groups

-- ---- what pins are judged by

abbrev pub is_primary_power : PgKind → Bool
is_primary_power kinds.PrimaryPower = true
is_primary_power _ = false

abbrev pub is_primary_ground : PgKind → Bool
is_primary_ground kinds.PrimaryGround = true
is_primary_ground _ = false

-- the places, counted from n, of the pins that pass
abbrev pub places_from : ℕ → (PgKind → Bool) → List PgKind → List ℕ
places_from n test kinds = map (λ (x : ℕ × PgKind). x.0) (filter (λ (x : ℕ × PgKind). test x.1) (enumerate_from n kinds))

-- what a list has where it has one alone
abbrev pub the_one : {A : Type 0} → List A → Option A
the_one [] = None
the_one (x ∷ []) = Some x
the_one (x ∷ y ∷ rest) = None

-- the place of the only pin that passes
abbrev pub only_place : (PgKind → Bool) → List PgKind → Option ℕ
only_place test kinds = the_one (places_from 0 test kinds)

abbrev pub only : (PgKind → Bool) → List PgPinView → Option ℕ
only test pgs = only_place test (kinds_of pgs)

-- a switch cell without primary, backup and internal ground pin: its signal pins have no related ground pin
abbrev pub floats : Bool → List PgPinView → Bool
floats switch pgs = switch && not (list_any is_ground (kinds_of pgs))

-- the names and the pins that the pins of a cell are read by
pub record Scope : Type 0 where
  pub signals : List (List ℕ)
  pub names : List (List ℕ)
  pub pgs : List PgPinView
  pub power : Option ℕ
  pub gnd : Option ℕ
  pub floating : Bool

-- ---- signal pins

abbrev pub action_if_any : Option (List ℕ) → Option Action
action_if_any None = None
action_if_any (Some text) = action text

abbrev pub action_of : List ℕ → GroupView → Option Action
action_of word g = action_if_any (value_of word g)

-- the class of a retention pin, the first of the two values
abbrev pub class_of : List (List ℕ) → Option RetClass
class_of [] = None
class_of (text ∷ values) = class text

-- the actions that a class has
abbrev pub saves : RetClass → Bool
saves classes.Save = true
saves classes.Restore = false
saves classes.Both = true

abbrev pub restores : RetClass → Bool
restores classes.Save = false
restores classes.Restore = true
restores classes.Both = true

-- an action that the class does not have is dropped
abbrev pub action_if : Bool → List ℕ → GroupView → Option Action
action_if has word g = if has then action_of word g else None

abbrev pub retains : GroupView → Option RetClass → PinUse
retains g None = uses.Plain
retains g (Some c) = uses.Retain c (action_if (saves c) (codes "save_action") g) (action_if (restores c) (codes "restore_action") g)

abbrev pub retention_use : GroupView → Option (List (List ℕ)) → PinUse
retention_use g None = uses.Plain
retention_use g (Some values) = retains g (class_of values)

-- of two uses the first in this order counts
abbrev pub shift_use : GroupView → PinUse
shift_use g =
    if says (codes "level_shifter_data_pin") (codes "true") g then uses.ShiftData
    else if says (codes "level_shifter_enable_pin") (codes "true") g then uses.ShiftEnable
    else if says (codes "switch_pin") (codes "true") g then uses.Switch
    else retention_use g (values_of (codes "retention_pin") g)

abbrev pub use_of : GroupView → PinUse
use_of g =
    if says (codes "isolation_cell_data_pin") (codes "true") g then uses.IsoData
    else if says (codes "isolation_cell_enable_pin") (codes "true") g then uses.IsoEnable
    else shift_use g

-- the place of a related pin: of the one that is named, else of the only one
abbrev pub related_by : List (List ℕ) → Option ℕ → Option (List ℕ) → Option ℕ
related_by names sole None = sole
related_by names sole (Some name) = place_of name names

abbrev pub power_of : Scope → GroupView → Option ℕ
power_of sc g = related_by sc.names sc.power (value_of (codes "related_power_pin") g)

abbrev pub ground_of : Scope → GroupView → Option ℕ
ground_of sc g = if sc.floating then None else Some (small (related_by sc.names sc.gnd (value_of (codes "related_ground_pin") g)))

abbrev pub direction_of : Bool → Direction
direction_of output = if output then directions.Output else directions.Input

-- an input has no functions
abbrev pub function_if_any : List (List ℕ) → Option (List ℕ) → Option ExprView
function_if_any names None = None
function_if_any names (Some text) = expression_over names text

abbrev pub function_of : Scope → Bool → GroupView → Option ExprView
function_of sc output g = if output then function_if_any sc.signals (value_of (codes "function") g) else None

abbrev pub power_down_of : Scope → Bool → GroupView → Option ExprView
power_down_of sc output g = if output then Some (down_of sc.pgs sc.names (value_of (codes "power_down_function") g)) else None

abbrev pub pin_of : Scope → GroupView → List ℕ → PinView
pin_of sc g name = record {
  name = name;
  direction = direction_of (is_output g);
  function = function_of sc (is_output g) g;
  power_down = power_down_of sc (is_output g) g;
  power = small (power_of sc g);
  gnd = ground_of sc g;
  use_of = use_of g;
}

-- a pin for each argument of a group
abbrev pub pins_by : Scope → GroupView → List PinView
pins_by sc g = map (pin_of sc g) g.args

unfoldable pub pins_at : ℕ → Scope → GroupView → List PinView
pins_at place sc g = if is_part place (codes "pin") g then pins_by sc g else []

abbrev pub pins_of : ℕ → Scope → List GroupView → List PinView
pins_of place sc groups = flat_map (pins_at place sc) groups
