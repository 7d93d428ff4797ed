-- Why a cell cannot be used (own rule): tests of its groups and of the cell that they make.
use Rattle.std.specs.Prelude.{◌≡◌, Result, IfOk, ℕ, Bool, true, false, not, ◌&&◌, ◌||◌, ◌==◌, nat_lt, nat_le, nat_eq, List, [], ◌∷◌, ◌++◌, length, map, Option, Some, None, is_some, is_none, if◌then◌else◌, codes, slice_get}
use Rattle.std.specs.List.{filter, list_any, list_all, starts_with}
use Rattle.lp_text.specs.Texts.{has_text, place_of}
use Rattle.lp_model.specs.declared.reason.Reason.{Reason}
use Rattle.lp_model.specs.declared.reason.Reason.TheVariants as reasons
use Rattle.lp_model.specs.declared.library.PgKind.{PgKind}
use Rattle.lp_model.specs.declared.library.RetClass.{RetClass}
use Rattle.lp_model.specs.GroupsView.{GroupView}
use Rattle.lp_model.specs.LibraryView.{PgPinView, PinView}
use Rattle.lp_attributes.specs.Attributes.{value_of, values_of}
use Rattle.lp_attributes.specs.Expressions.{expression_over}
use Rattle.lp_attributes.specs.Words.{direction}
use Rattle.lp_parts.specs.Source.{arg_at, stands_in, is_part}
use Rattle.lp_parts.specs.Names.{is_state, is_output}
use Rattle.lp_parts.specs.Functions.{is_power, is_ground, kinds_of, passed}
use Rattle.lp_parts.specs.Pins.{Scope, kind_of, is_internal_power, is_primary_power, is_primary_ground, action_of, class_of, saves, restores}
use Rattle.lp_parts.specs.Roles.{range_if_any, copy_of, is_retention, is_switch}
use Rattle.lp_parts.specs.States.{is_pin, next_text, clock_text}

-- a judgement, where there is memory for it, is this reason, or that there is none
abbrev pub Judges : {E : Type 0} → Result (Option Reason) E → Option Reason → Type 0
Judges result reason = IfOk result (λ r. r ≡ reason)

-- ---- name

-- not empty, and all of it visible ASCII
abbrev pub is_visible_byte : ℕ → Bool
is_visible_byte b = nat_le 33 b && nat_le b 126

abbrev pub is_visible : List ℕ → Bool
is_visible name = not (length name == 0) && list_all is_visible_byte name

abbrev pub is_free : List ℕ → Bool
is_free name = is_visible name && not (starts_with nat_eq name (codes "lp_"))

-- the names of the pins, and those of the power and ground pins
abbrev pub all_names : List PinView → List PgPinView → List (List ℕ)
all_names pins pgs = map (λ (p : PinView). p.name) pins ++ map (λ (p : PgPinView). p.name) pgs

abbrev pub has_bad_name : List ℕ → List (List ℕ) → Bool
has_bad_name cell names = not (is_free cell && list_all is_visible names)

-- ---- twice

-- the first name that stands before it, or in a list, already
abbrev pub repeated : List (List ℕ) → List (List ℕ) → Option (List ℕ)
repeated met [] = None
repeated met (name ∷ names) = if has_text name met then Some name else repeated (met ++ name ∷ []) names

abbrev pub has_name_twice : List (List ℕ) → Bool
has_name_twice names = is_some (repeated [] names)

-- ---- pg

abbrev pub has_no_kind : ℕ → GroupView → Bool
has_no_kind place g = is_part place (codes "pg_pin") g && is_none (kind_of g)

abbrev pub lacks_pgs : Bool → List PgKind → Bool
lacks_pgs switch pins = nat_lt 8 (length pins) || (not (list_any is_primary_power pins) || (not switch && not (list_any is_primary_ground pins)))

abbrev pub has_bad_pg : ℕ → GroupView → List GroupView → List PgKind → Bool
has_bad_pg place head groups pins = list_any (has_no_kind place) groups || lacks_pgs (is_switch head) pins

-- ---- direction

abbrev pub is_direction : Option (List ℕ) → Bool
is_direction None = false
is_direction (Some text) = is_some (direction text)

abbrev pub has_no_direction : ℕ → GroupView → Bool
has_no_direction place g = is_pin place g && not (is_direction (value_of (codes "direction") g))

-- ---- related

abbrev pub is_power_at : Option PgKind → Bool
is_power_at None = false
is_power_at (Some kind) = is_power kind

abbrev pub is_ground_at : Option PgKind → Bool
is_ground_at None = false
is_ground_at (Some kind) = is_ground kind

abbrev pub names_power : List PgKind → Option ℕ → Bool
names_power pins None = false
names_power pins (Some place) = is_power_at (slice_get pins place)

abbrev pub names_ground : List PgKind → Option ℕ → Bool
names_ground pins None = false
names_ground pins (Some place) = is_ground_at (slice_get pins place)

-- the related pin that is named is a non-bias pin of its kind, or it may be missing
abbrev pub is_powered : List PgKind → List (List ℕ) → Bool → Option (List ℕ) → Bool
is_powered pins names complete None = complete
is_powered pins names complete (Some name) = names_power pins (place_of name names)

abbrev pub is_grounded : List PgKind → List (List ℕ) → Bool → Option (List ℕ) → Bool
is_grounded pins names complete None = complete
is_grounded pins names complete (Some name) = names_ground pins (place_of name names)

abbrev pub is_related : Scope → GroupView → Bool
is_related sc g =
    is_powered (kinds_of sc.pgs) sc.names (is_some sc.power) (value_of (codes "related_power_pin") g)
    && is_grounded (kinds_of sc.pgs) sc.names (sc.floating || is_some sc.gnd) (value_of (codes "related_ground_pin") g)

abbrev pub has_bad_related : ℕ → Scope → GroupView → Bool
has_bad_related place sc g = is_pin place g && not (is_related sc g)

-- ---- function

-- it reads, and all of its names stand; a missing one may be needed or not
abbrev pub reads_if_any : List (List ℕ) → Bool → Option (List ℕ) → Bool
reads_if_any names complete None = complete
reads_if_any names complete (Some text) = is_some (expression_over names text)

abbrev pub reads_down : Scope → GroupView → Bool
reads_down sc g = reads_if_any sc.names true (value_of (codes "power_down_function") g)

abbrev pub reads_pin : Scope → GroupView → Bool
reads_pin sc g = reads_if_any sc.signals (not (is_output g)) (value_of (codes "function") g) && reads_down sc g

abbrev pub reads_switched : Scope → Option (List ℕ) → Option (List ℕ) → Bool
reads_switched sc None passes = true
reads_switched sc off None = true
reads_switched sc (Some off) (Some passes) = is_some (expression_over sc.signals off) && is_some (passed sc.names passes)

abbrev pub reads_pg : Scope → GroupView → Bool
reads_pg sc g = not (is_internal_power (kind_of g)) || reads_switched sc (value_of (codes "switch_function") g) (value_of (codes "pg_function") g)

abbrev pub reads_data : Scope → GroupView → Bool
reads_data sc g = reads_if_any sc.signals false (next_text g) && reads_if_any sc.signals false (clock_text g)

abbrev pub reads_controls : Scope → GroupView → Bool
reads_controls sc g = reads_if_any sc.signals true (value_of (codes "clear") g) && reads_if_any sc.signals true (value_of (codes "preset") g)

abbrev pub reads_state : Scope → GroupView → Bool
reads_state sc g = reads_data sc g && (reads_controls sc g && reads_down sc g)

-- all functions of a group read
abbrev pub reads_all : ℕ → Scope → GroupView → Bool
reads_all place sc g =
    if is_pin place g then reads_pin sc g
    else if is_part place (codes "pg_pin") g then reads_pg sc g
    else if is_state place g then reads_state sc g
    else if is_part place (codes "retention_condition") g then reads_down sc g
    else true

-- ---- range

abbrev pub is_bad_range : Option (List (List ℕ)) → Bool
is_bad_range None = false
is_bad_range (Some values) = is_none (range_if_any (Some values))

abbrev pub has_bad_range : GroupView → Bool
has_bad_range head = is_bad_range (values_of (codes "input_voltage_range") head) || is_bad_range (values_of (codes "output_voltage_range") head)

-- ---- groups

-- more than one group passes
abbrev pub has_two : (GroupView → Bool) → List GroupView → Bool
has_two test groups = nat_lt 1 (length (filter test groups))

-- ---- retention

-- an action that is known; a missing one may be needed or not
abbrev pub is_action : Bool → List ℕ → GroupView → Bool
is_action needed word g = is_some (action_of word g) || (not needed && is_none (value_of word g))

abbrev pub has_actions : GroupView → Option RetClass → Bool
has_actions g None = false
has_actions g (Some c) = is_action (saves c) (codes "save_action") g && is_action (restores c) (codes "restore_action") g

abbrev pub retains_well : GroupView → Option (List (List ℕ)) → Bool
retains_well g None = true
retains_well g (Some values) = has_actions g (class_of values)

abbrev pub has_bad_retention : ℕ → GroupView → Bool
has_bad_retention place g = is_pin place g && not (retains_well g (values_of (codes "retention_pin") g))

abbrev pub lacks_copy : ℕ → GroupView → List GroupView → Bool
lacks_copy place head groups = is_retention head && is_none (copy_of place groups)

-- ---- construct

abbrev pub is_left_out : List ℕ → Bool
is_left_out word = has_text word (codes "statetable" ∷ codes "bus" ∷ codes "bundle" ∷ codes "ff_bank" ∷ codes "latch_bank" ∷ [])

-- conditions that restrict sequences of control signals
abbrev pub has_condition : GroupView → Bool
has_condition g = is_some (value_of (codes "save_condition") g) || (is_some (value_of (codes "restore_condition") g) || is_some (value_of (codes "required_condition") g))

abbrev pub has_three_state : GroupView → Bool
has_three_state g = is_some (value_of (codes "three_state") g)

-- the group is a construct that is not taken, or has one
abbrev pub is_construct : ℕ → GroupView → Bool
is_construct place g =
    if is_pin place g then has_condition g || has_three_state g
    else if is_state place g || is_part place (codes "retention_condition") g then has_condition g
    else stands_in place g && is_left_out g.word

-- a colon is in the name of a bus pin
abbrev pub is_bus_name : List ℕ → Bool
is_bus_name name = list_any (λ c. c == 58) name

abbrev pub has_construct : ℕ → GroupView → List GroupView → List (List ℕ) → Bool
has_construct place head groups names = nat_lt 240 (length names) || (list_any is_bus_name names || (has_condition head || list_any (is_construct place) groups))

-- ---- the first reason that holds, of a cell with these pins

abbrev pub late_reason : ℕ → Scope → GroupView → List GroupView → List (List ℕ) → Option Reason
late_reason place sc head groups names =
    if not (list_all (reads_all place sc) groups) then Some reasons.Function
    else if has_bad_range head then Some reasons.Range
    else if has_two (is_state place) groups then Some reasons.Groups
    else if lacks_copy place head groups || list_any (has_bad_retention place) groups then Some reasons.Retention
    else if has_construct place head groups names then Some reasons.Construct
    else None

abbrev pub middle_reason : ℕ → Scope → GroupView → List GroupView → List (List ℕ) → Option Reason
middle_reason place sc head groups names =
    if has_bad_pg place head groups (kinds_of sc.pgs) then Some reasons.Pg
    else if list_any (has_no_direction place) groups then Some reasons.Direction
    else if list_any (has_bad_related place sc) groups then Some reasons.Related
    else late_reason place sc head groups names

abbrev pub reason_by : ℕ → Scope → GroupView → List GroupView → List (List ℕ) → List (List ℕ) → Option Reason
reason_by place sc head groups names all =
    if has_bad_name (arg_at 0 head) all then Some reasons.Name
    else if has_name_twice all then Some reasons.Twice
    else middle_reason place sc head groups names

abbrev pub reason_of : ℕ → Scope → GroupView → List GroupView → List PinView → Option Reason
reason_of place sc head groups pins = reason_by place sc head groups (map (λ (p : PinView). p.name) pins) (all_names pins sc.pgs)
