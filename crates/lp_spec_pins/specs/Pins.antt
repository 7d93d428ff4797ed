-- A netlist judged by its pins: no domain, strategy or row occurs (Liberty pg_pin, related_power_pin, power_down_function, switch_function; own rule).
use Rattle.std.specs.Prelude.{◌≡◌, ℕ, zero, suc, ◌==◌, nat_le, Bool, true, false, not, ◌&&◌, ◌||◌, List, [], ◌∷◌, map, filter, Option, Some, None, option_and_then, if◌then◌else◌, bytes_eq, slice_get}
use Rattle.std.specs.List.{list_all, zip}
use Rattle.lp_tern.specs.declared.tern.Tern.{Tern}
use Rattle.lp_tern.specs.declared.tern.Tern.TheVariants.{Zero, One, X}
use Rattle.lp_tern.specs.declared.supply.SupplyState.{SupplyState}
use Rattle.lp_tern.specs.declared.supply.SupplyState.TheVariants.{On, Off, Unknown}
use Rattle.lp_tern.specs.Values.{choose_supply_of}
use Rattle.lp_expr.specs.Formula.{truth, completions}
use Rattle.lp_model.specs.declared.netlist.Direction.TheVariants.{Input, Output}
use Rattle.lp_model.specs.declared.netlist.Direction.{Direction}
use Rattle.lp_model.specs.declared.library.PgKind.{PgKind}
use Rattle.lp_model.specs.declared.library.PgKind.TheVariants.{PrimaryPower, BackupPower, InternalPower, Nwell, Deepnwell}
use Rattle.lp_model.specs.declared.library.PinUse.TheVariants.{ShiftData}
use Rattle.lp_model.specs.declared.library.PinUse.{PinUse}
use Rattle.lp_model.specs.declared.library.Shifter.{Shifter}
use Rattle.lp_model.specs.declared.library.ShifterKind.{ShifterKind}
use Rattle.lp_model.specs.declared.library.ShifterKind.TheVariants.{LowToHigh, HighToLow, Both}
use Rattle.lp_model.specs.declared.library.VoltageRange.{VoltageRange}
use Rattle.lp_model.specs.LibraryView.{ExprView, SwitchedView, PgPinView, PinView, CellView}
use Rattle.lp_rows.specs.Voltages.{under_of}
use Rattle.lp_behaviour.specs.Signals.{known}
use Rattle.lp_spec_design.specs.Keys.{Name, Path, same_path, Node, Inner, Outer, Fixed, Source, CellPin, SwitchedPin, Environment, From}
use Rattle.lp_spec_design.specs.Netlists.{Structure, first, cell_at}
use Rattle.lp_spec_design.specs.Graph.{source_of, trail, beginning}
use Rattle.lp_spec_design.specs.Nodes.{fuel_of}
use Rattle.lp_spec_design.specs.Settled.{Value, Logic, State, Registers, logic_in, state_in, kept, is_on, pin_named, node_at_pin, output_by, function_value}

-- ---- supplies

-- where a supply comes from: a port of the top, or a switched pin of a cell instance
pub data SupplySource : Type 0 where
  FromTop : Name → SupplySource
  FromSwitched : Path → Name → Name → SupplySource

abbrev pub same_source : SupplySource → SupplySource → Bool
same_source (FromTop m) (FromTop n) = bytes_eq m n
same_source (FromSwitched p x g) (FromSwitched q y h) = same_path p q && (bytes_eq x y && bytes_eq g h)
same_source _ _ = false

-- a power and a ground node
pub record SupplyNodes : Type 0 where
  pub power : Node
  pub gnd : Node

-- what surrounds the netlist: which top ports are supplies, by what the others are driven and read, and up to which difference a reader takes the value of a lower driver (in microvolts)
pub record Surroundings : Type 0 where
  pub is_supply : Name → Bool
  pub driver : Name → SupplyNodes
  pub receiver : Name → SupplyNodes
  pub margin : ℕ

-- the netlist with what surrounds it
pub record Powered : Type 0 where
  pub structure : Structure
  pub around : Surroundings

pub data PinKey : Type 0 where
  Signal : Node → PinKey
  Supply : SupplySource → PinKey

abbrev pub PinAssignment : Type 0
PinAssignment = PinKey → Value

abbrev pub signal_at : PinAssignment → Node → Tern
signal_at B (Fixed b) = known b
signal_at B k = logic_in (B (Signal k))

-- where the wire of a node begins
abbrev pub begins : Powered → Node → Node
begins w k = beginning k (trail w.structure (fuel_of w.structure) k)

abbrev pub supply_begun : Powered → Node → Option Source → Option SupplySource
supply_begun w (Outer n j) (Some Environment) = if w.around.is_supply n then Some (FromTop n) else None
supply_begun w k (Some (SwitchedPin p x g)) = Some (FromSwitched p x g)
supply_begun w k _ = None

-- the supply that a node is joined to, if any
abbrev pub supply_of_node : Powered → Node → Option SupplySource
supply_of_node w k = supply_begun w (begins w k) (source_of w.structure (begins w k))

abbrev pub state_from : PinAssignment → Option SupplySource → SupplyState
state_from B None = Unknown
state_from B (Some s) = state_in (B (Supply s))

abbrev pub state_at : Powered → PinAssignment → Node → SupplyState
state_at w B k = state_from B (supply_of_node w k)

-- ---- power and ground pins

abbrev pub supply_of_pin : Powered → Path → Name → Name → Option SupplySource
supply_of_pin w p x g = option_and_then (supply_of_node w) (node_at_pin w.structure p x g)

abbrev pub source_of_pg : Powered → Path → Name → Option PgPinView → Option SupplySource
source_of_pg w p x None = None
source_of_pg w p x (Some g) = supply_of_pin w p x g.name

abbrev pub state_of_pg : Powered → PinAssignment → Path → Name → Option PgPinView → SupplyState
state_of_pg w B p x g = state_from B (source_of_pg w p x g)

-- a related ground that a cell lacks counts as on
abbrev pub state_of_ground : Powered → PinAssignment → Path → Name → CellView → Option ℕ → SupplyState
state_of_ground w B p x c None = On 0
state_of_ground w B p x c (Some g) = state_of_pg w B p x (slice_get c.pgs g)

pub record Pair : Type 0 where
  pub power : SupplyState
  pub gnd : SupplyState

abbrev pub pair_on : Pair → Bool
pair_on s = is_on s.power && is_on s.gnd

-- a driver's supply is too low for a reader's
abbrev pub pair_under : ℕ → Pair → Pair → Bool
pair_under margin r t = under_of r.power r.gnd t.power t.gnd margin

-- the related supply of a signal pin
abbrev pub related : Powered → PinAssignment → Path → Name → CellView → PinView → Pair
related w B p x c q = record { power = state_of_pg w B p x (slice_get c.pgs q.power); gnd = state_of_ground w B p x c q.gnd }

abbrev pub state_pair : Powered → PinAssignment → SupplyNodes → Pair
state_pair w B s = record { power = state_at w B s.power; gnd = state_at w B s.gnd }

-- ---- what drives a node

abbrev pub related_of_pin : Powered → PinAssignment → Path → Name → CellView → Option PinView → Option Pair
related_of_pin w B p x c None = None
related_of_pin w B p x c (Some q) = Some (related w B p x c q)

abbrev pub related_of : Powered → PinAssignment → Path → Name → Option CellView → Name → Option Pair
related_of w B p x None q = None
related_of w B p x (Some c) q = related_of_pin w B p x c (pin_named c q)

-- the related supply of the pin in which a node's wire begins
abbrev pub pin_supply_begun : Powered → PinAssignment → Option Source → Option Pair
pin_supply_begun w B None = None
pin_supply_begun w B (Some (CellPin p x q)) = related_of w B p x (cell_at w.structure p x) q
pin_supply_begun w B (Some (SwitchedPin p x q)) = None
pin_supply_begun w B (Some Environment) = None
pin_supply_begun w B (Some (From way j)) = None

abbrev pub pin_supply : Powered → PinAssignment → Node → Option Pair
pin_supply w B k = pin_supply_begun w B (source_of w.structure (begins w k))

abbrev pub driver_begun : Powered → PinAssignment → Node → Option Source → Option Pair
driver_begun w B (Outer n j) (Some Environment) = Some (state_pair w B (w.around.driver n))
driver_begun w B k source = pin_supply_begun w B source

-- the supply of the pin or of the top input that drives a node
abbrev pub driving : Powered → PinAssignment → Node → Option Pair
driving w B k = driver_begun w B (begins w k) (source_of w.structure (begins w k))

abbrev pub some_under : ℕ → Option Pair → Pair → Bool
some_under margin None t = false
some_under margin (Some r) t = pair_under margin r t

abbrev pub is_joined : Option SupplySource → Bool
is_joined None = false
is_joined (Some s) = true

-- a reader takes the value of a node, but X from a driver that is too low, and from a supply
abbrev pub read_by : Powered → PinAssignment → Node → Pair → Tern
read_by w B k t = if is_joined (supply_of_node w k) || some_under w.around.margin (driving w B k) t then X else signal_at B k

-- ---- what a cell instance reads

abbrev pub is_input_pin : PinView → Bool
is_input_pin q = by q.direction
  where
    by : Direction → Bool
    by Input = true
    by Output = false

abbrev pub input_value : Powered → PinAssignment → Path → Name → CellView → PinView → Node → Bool → Tern
input_value w B p x c q k true = read_by w B k (related w B p x c q)
input_value w B p x c q k false = signal_at B k

abbrev pub pin_value : Powered → PinAssignment → Path → Name → CellView → Option PinView → Option Node → Tern
pin_value w B p x c None k = X
pin_value w B p x c (Some q) None = X
pin_value w B p x c (Some q) (Some k) = input_value w B p x c q k (is_input_pin q)

abbrev pub pins_read : Powered → PinAssignment → Path → Name → CellView → Name → Tern
pins_read w B p x c v = pin_value w B p x c (pin_named c v) (node_at_pin w.structure p x v)

-- ---- power-down functions

abbrev pub is_power : PgKind → Bool
is_power PrimaryPower = true
is_power BackupPower = true
is_power InternalPower = true
is_power Nwell = true
is_power Deepnwell = true
is_power _ = false

-- whether a supply is on, as a value
abbrev pub onness : SupplyState → Tern
onness (On v) = One
onness Off = Zero
onness Unknown = X

abbrev pub pg_named : CellView → Name → Option PgPinView
pg_named c v = first (λ (g : PgPinView). bytes_eq g.name v) c.pgs

-- a power pin is 1 where its supply is on, a ground pin where it is not
abbrev pub level_by : Option PgPinView → Bool → Bool
level_by None on = on
level_by (Some g) on = if is_power g.kind then on else not on

abbrev pub agree_if_same : Option SupplySource × Bool → Option SupplySource × Bool → Bool
agree_if_same (Some a, on) (Some b, also) = not (same_source a b) || (if on then also else not also)
agree_if_same _ _ = true

-- pins on one source are on together
abbrev pub is_consistent : List (Option SupplySource × Bool) → Bool
is_consistent all = list_all (λ a. list_all (agree_if_same a) all) all

-- the supplies of the pins that a function names
abbrev pub sources_named : Powered → Path → Name → CellView → List Name → List (Option SupplySource)
sources_named w p x c names = map (λ v. source_of_pg w p x (pg_named c v)) names

abbrev pub levels : CellView → List Name → List Bool → List Bool
levels c names ons = map (λ a. level_by (pg_named c a.0) a.1) (zip names ons)

-- every replacement of unknown supplies makes the function 0
abbrev pub is_zero_for : CellView → ExprView → List (Option SupplySource) → List Tern → Bool
is_zero_for c e sources ons = list_all (λ bits. not (truth e.steps (levels c e.variables bits))) (filter (λ bits. is_consistent (zip sources bits)) (completions ons))

-- a power-down function is 0, whatever unknown supplies are
abbrev pub is_up : Powered → PinAssignment → Path → Name → CellView → Option ExprView → Bool
is_up w B p x c None = false
is_up w B p x c (Some e) = is_zero_for c e (sources_named w p x c e.variables) (map (λ s. onness (state_from B s)) (sources_named w p x c e.variables))

-- ---- level shifters

abbrev pub holds : Option VoltageRange → ℕ → Bool
holds None v = true
holds (Some r) v = nat_le r.low v && nat_le v r.high

abbrev pub type_takes : ShifterKind → ℕ → ℕ → Bool
type_takes LowToHigh a b = nat_le a b
type_takes HighToLow a b = nat_le b a
type_takes Both a b = true

abbrev pub takes : Shifter → ℕ → ℕ → Bool
takes f a b = type_takes f.kind a b && (holds f.input a && holds f.output b)

abbrev pub microvolts : SupplyState → ℕ
microvolts (On v) = v
microvolts _ = 0

-- both supplies are on and outside the cell's type or ranges
abbrev pub is_outside : Shifter → Pair → Pair → Bool
is_outside f r t = pair_on r && (pair_on t && not (takes f (microvolts r.power) (microvolts t.power)))

-- the pin bears the mark of a shifter's data (Liberty level_shifter_data_pin)
abbrev pub is_data : PinView → Bool
is_data q = by q.use_of
  where
    by : PinUse → Bool
    by ShiftData = true
    by _ = false

-- the one of a list, where it has exactly one
abbrev pub only : {A : Type 0} → List A → Option A
only [] = None
only (x ∷ []) = Some x
only (x ∷ y ∷ rest) = None

-- the one input of a use; an output that bears the mark is none
abbrev pub input_for : (PinView → Bool) → CellView → Option PinView
input_for purpose c = only (filter (λ q. is_input_pin q && purpose q) c.pins)

abbrev pub driving_pin : Powered → PinAssignment → Option Node → Option Pair
driving_pin w B None = None
driving_pin w B (Some k) = pin_supply w B k

-- the input supply of a shifter: that of its data pin, or that of the driving pin where data and output relate to one power pin
abbrev pub input_supply : Powered → PinAssignment → Path → Name → CellView → PinView → Bool → Option Pair
input_supply w B p x c input true = driving_pin w B (node_at_pin w.structure p x input.name)
input_supply w B p x c input false = Some (related w B p x c input)

abbrev pub outside_by : Shifter → Option Pair → Pair → Bool
outside_by f None t = false
outside_by f (Some r) t = is_outside f r t

abbrev pub is_unfit_at : Powered → PinAssignment → Path → Name → CellView → PinView → Option Shifter → Option PinView → Bool
is_unfit_at w B p x c out None input = false
is_unfit_at w B p x c out (Some f) None = false
is_unfit_at w B p x c out (Some f) (Some input) = outside_by f (input_supply w B p x c input (input.power == out.power)) (related w B p x c out)

-- without one data pin nothing is judged
abbrev pub is_unfit : Powered → PinAssignment → Path → Name → CellView → PinView → Bool
is_unfit w B p x c out = is_unfit_at w B p x c out c.roles.shifter (input_for is_data c)

-- ---- equations

-- an output has its function where its power-down function is 0, unless it is that of a shifter outside its type or ranges
abbrev pub output_at : Powered → PinAssignment → Registers → Path → Name → CellView → Option PinView → Tern
output_at w B regs p x c None = X
output_at w B regs p x c (Some q) = kept (is_up w B p x c q.power_down && not (is_unfit w B p x c q)) (output_by c (pins_read w B p x c) (regs p x) q.function)

abbrev pub cell_output_at : Powered → PinAssignment → Registers → Path → Name → Name → Option CellView → Tern
cell_output_at w B regs p x q None = X
cell_output_at w B regs p x q (Some c) = output_at w B regs p x c (pin_named c q)

-- what comes from outside: a value for each bit of a top input, and a state for each supply port
pub record PinEvent : Type 0 where
  pub inputs : Name → Option ℕ → Tern
  pub supplies : Name → SupplyState

abbrev pub top_input : Powered → PinEvent → PinAssignment → Name → Option ℕ → Bool → Tern
top_input w ev B n j true = X
top_input w ev B n j false = kept (pair_on (state_pair w B (w.around.driver n))) (ev.inputs n j)

abbrev pub signal_equation : Powered → PinEvent → Registers → PinAssignment → Node → Option Source → Tern
signal_equation w ev regs B k None = X
signal_equation w ev regs B k (Some (CellPin p x q)) = cell_output_at w B regs p x q (cell_at w.structure p x)
signal_equation w ev regs B k (Some (SwitchedPin p x q)) = X
signal_equation w ev regs B k (Some (From way j)) = signal_at B j
signal_equation w ev regs B (Outer n j) (Some Environment) = top_input w ev B n j (w.around.is_supply n)
signal_equation w ev regs B (Inner n j p) (Some Environment) = X
signal_equation w ev regs B (Fixed b) (Some Environment) = X

abbrev pub switched_state : Powered → PinAssignment → Registers → Path → Name → CellView → Option SwitchedView → SupplyState
switched_state w B regs p x c None = Unknown
switched_state w B regs p x c (Some s) = choose_supply_of (function_value c (pins_read w B p x c) (regs p x) s.off) Off (state_of_pg w B p x (slice_get c.pgs s.passes))

abbrev pub switched_of : Option PgPinView → Option SwitchedView
switched_of None = None
switched_of (Some g) = g.switched

abbrev pub switch_equation : Powered → PinAssignment → Registers → Path → Name → Name → Option CellView → SupplyState
switch_equation w B regs p x g None = Unknown
switch_equation w B regs p x g (Some c) = switched_state w B regs p x c (switched_of (pg_named c g))

abbrev pub pin_equation : Powered → PinEvent → Registers → PinKey → PinAssignment → Value
pin_equation w ev regs (Signal k) B = Logic (signal_equation w ev regs B k (source_of w.structure k))
pin_equation w ev regs (Supply (FromTop n)) B = State (ev.supplies n)
pin_equation w ev regs (Supply (FromSwitched p x g)) B = State (switch_equation w B regs p x g (cell_at w.structure p x))

-- the assignment settles by pins
abbrev pub SettlesPins : Powered → PinEvent → Registers → PinAssignment → Type 0
SettlesPins w ev regs B = (k : PinKey) → B k ≡ pin_equation w ev regs k B

-- a top output is read by its receiver's supply
abbrev pub output_by_pins : Powered → PinAssignment → Name → Option ℕ → Tern
output_by_pins w B n j = read_by w B (Outer n j) (state_pair w B (w.around.receiver n))

-- each key by its equation over values that are computed with less fuel
abbrev pub computed_by_pins : Powered → PinEvent → Registers → ℕ → PinAssignment
computed_by_pins w ev regs zero k = Logic X
computed_by_pins w ev regs (suc fuel) k = pin_equation w ev regs k (computed_by_pins w ev regs fuel)
