-- The state of a cell (Liberty ff and latch).
use Rattle.std.specs.Prelude.{ℕ, Bool, ◌&&◌, nat_lt, length, List, [], ◌∷◌, Option, Some, None, if◌then◌else◌, codes}
use Rattle.std.specs.List.{find}
use Rattle.std.specs.Option.{option_map}
use Rattle.lp_text.specs.Texts.{same_text}
use Rattle.lp_model.specs.declared.library.StateKind.{StateKind}
use Rattle.lp_model.specs.declared.library.StateKind.TheVariants as kinds
use Rattle.lp_model.specs.GroupsView.{GroupView}
use Rattle.lp_model.specs.LibraryView.{ExprView, StateView}
use Rattle.lp_attributes.specs.Attributes.{value_of}
use Rattle.lp_parts.specs.Source.{is_part, arg_at}
use Rattle.lp_parts.specs.Names.{is_state, is_output}
use Rattle.lp_parts.specs.Functions.{over_if_any, down_of}
use Rattle.lp_parts.specs.Pins.{Scope}
use Rattle.lp_parts.specs.Roles.{down_in}

-- a group that makes pins
unfoldable pub is_pin : ℕ → GroupView → Bool
is_pin place g = is_part place (codes "pin") g && nat_lt 0 (length g.args)

unfoldable pub is_output_pin : ℕ → GroupView → Bool
is_output_pin place g = is_pin place g && is_output g

abbrev pub is_flop : GroupView → Bool
is_flop g = same_text g.word (codes "ff")

-- the data and the clock: of a latch its data and its enable
abbrev pub next_text : GroupView → Option (List ℕ)
next_text g = if is_flop g then value_of (codes "next_state") g else value_of (codes "data_in") g

abbrev pub clock_text : GroupView → Option (List ℕ)
clock_text g = if is_flop g then value_of (codes "clocked_on") g else value_of (codes "enable") g

-- a missing power_down_function is that of the first output (own rule)
abbrev pub own_or : Option (List ℕ) → Option (List ℕ) → Option (List ℕ)
own_or None other = other
own_or (Some text) other = Some text

abbrev pub output_down : ℕ → List GroupView → Option (List ℕ)
output_down place groups = down_in (find (is_output_pin place) groups)

abbrev pub down_text : ℕ → List GroupView → GroupView → Option (List ℕ)
down_text place groups g = own_or (value_of (codes "power_down_function") g) (output_down place groups)

abbrev pub kind_of : GroupView → StateKind
kind_of g = if is_flop g then kinds.Flop else kinds.Latch

-- the function of the power and ground pins under which a state group is lost
abbrev pub power_down_of : ℕ → Scope → GroupView → List GroupView → ExprView
power_down_of place sc g groups = down_of sc.pgs sc.names (down_text place groups g)

-- the state of a state group, among the groups of its cell
abbrev pub state_by : ℕ → Scope → GroupView → List GroupView → StateView
state_by place sc g groups = record {
  kind = kind_of g;
  var = arg_at 0 g;
  inverse = arg_at 1 g;
  next = over_if_any sc.signals (next_text g);
  clock = over_if_any sc.signals (clock_text g);
  clear = over_if_any sc.signals (value_of (codes "clear") g);
  preset = over_if_any sc.signals (value_of (codes "preset") g);
  power_down = power_down_of place sc g groups;
}

-- the first state group
abbrev pub state_of : ℕ → Scope → List GroupView → Option StateView
state_of place sc groups = option_map (λ g. state_by place sc g groups) (find (is_state place) groups)
