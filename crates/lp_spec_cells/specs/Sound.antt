-- What readers know of every cell that can be used (own rule; Liberty function, ff, latch, power_down_function, switch_function, pg_type).
use Rattle.std.specs.Prelude.{◌≡◌, ℕ, Bool, true, false, ◌&&◌, ◌||◌, map, Option, Some, None, is_some, bytes_eq, slice_get}
use Rattle.std.specs.List.{list_any, list_all}
use Rattle.lp_text.specs.Texts.{distinct}
use Rattle.lp_model.specs.declared.library.PgKind.{PgKind}
use Rattle.lp_model.specs.declared.library.PgKind.TheVariants.{PrimaryPower, PrimaryGround, BackupPower, BackupGround, InternalPower, InternalGround}
use Rattle.lp_model.specs.LibraryView.{ExprView, SwitchedView, PgPinView, PinView, StateView, CellView}
use Rattle.lp_spec_design.specs.Keys.{Name}
use Rattle.lp_spec_design.specs.Settled.{read_pin}
use Rattle.lp_spec_pins.specs.Pins.{pg_named}

-- the name is that of the state bit or of its complement
abbrev pub is_state_name : Option StateView → Name → Bool
is_state_name None v = false
is_state_name (Some g) v = bytes_eq g.var v || bytes_eq g.inverse v

-- a name that a function of signals may have: that of an input pin, of the state bit or of its complement
abbrev pub is_signal : CellView → Name → Bool
is_signal c v = is_some (read_pin c v) || is_state_name c.state v

-- the variables of a function differ, and each is a signal of the cell
abbrev pub is_function_of : CellView → ExprView → Bool
is_function_of c e = distinct e.variables && list_all (is_signal c) e.variables

-- each variable of a power-down function is a power or ground pin of the cell
abbrev pub is_down_of : CellView → ExprView → Bool
is_down_of c e = list_all (λ v. is_some (pg_named c v)) e.variables

abbrev pub passes_if_any : (ExprView → Bool) → Option ExprView → Bool
passes_if_any test None = true
passes_if_any test (Some e) = test e

abbrev pub has_sound_functions : CellView → PinView → Bool
has_sound_functions c q = passes_if_any (is_function_of c) q.function && passes_if_any (is_down_of c) q.power_down

abbrev pub is_sound_switched : CellView → Option SwitchedView → Bool
is_sound_switched c None = true
is_sound_switched c (Some s) = is_function_of c s.off

abbrev pub is_sound_state : CellView → Option StateView → Bool
is_sound_state c None = true
is_sound_state c (Some g) =
    is_function_of c g.next
    && (is_function_of c g.clock
    && (is_function_of c g.clear
    && (is_function_of c g.preset
    && is_down_of c g.power_down)))

abbrev pub is_primary_power : PgPinView → Bool
is_primary_power g = by g.kind
  where
    by : PgKind → Bool
    by PrimaryPower = true
    by _ = false

-- a power pin and a ground pin that are no bias pins
abbrev pub is_power_kind : PgKind → Bool
is_power_kind PrimaryPower = true
is_power_kind BackupPower = true
is_power_kind InternalPower = true
is_power_kind _ = false

abbrev pub is_ground_kind : PgKind → Bool
is_ground_kind PrimaryGround = true
is_ground_kind BackupGround = true
is_ground_kind InternalGround = true
is_ground_kind _ = false

abbrev pub is_kind_at : (PgKind → Bool) → Option PgPinView → Bool
is_kind_at test None = false
is_kind_at test (Some g) = test g.kind

abbrev pub is_ground_at : CellView → Option ℕ → Bool
is_ground_at c None = true
is_ground_at c (Some k) = is_kind_at is_ground_kind (slice_get c.pgs k)

-- a pin relates to a power pin, and to a ground pin if to any
abbrev pub has_related : CellView → PinView → Bool
has_related c q = is_kind_at is_power_kind (slice_get c.pgs q.power) && is_ground_at c q.gnd

pub record IsSound (c : CellView) : Type 0 where
  -- no two signal pins have one name
  pub names_apart : distinct (map (λ (q : PinView). q.name) c.pins) ≡ true
  -- no two power and ground pins
  pub pgs_apart : distinct (map (λ (g : PgPinView). g.name) c.pgs) ≡ true
  -- the related pins of its pins
  pub related : list_all (has_related c) c.pins ≡ true
  -- the functions and power-down functions of its pins
  pub pins : list_all (has_sound_functions c) c.pins ≡ true
  -- the switch functions of its switched pins
  pub switched : list_all (λ (g : PgPinView). is_sound_switched c g.switched) c.pgs ≡ true
  -- next state, clock, clear, preset and power-down of its state
  pub state : is_sound_state c c.state ≡ true
  -- when its copy is lost
  pub retention : passes_if_any (is_down_of c) c.roles.retention ≡ true
  -- it has a primary power pin
  pub powered : list_any is_primary_power c.pgs ≡ true
