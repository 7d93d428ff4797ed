-- The states of supplies in an event within the rows of the state table (own rule, after IEEE 1801-2015 add_port_state, add_pst_state and create_power_switch).
use Rattle.std.specs.Prelude.{◌≡◌, ℕ, Bool, false, Option, Some, None, slice_get, true}
use Rattle.lp_tern.specs.declared.supply.SupplyState.{SupplyState}
use Rattle.lp_tern.specs.declared.supply.SupplyState.TheVariants.{On, Unknown}
use Rattle.lp_model.specs.declared.supply.Supplies.{Supplies}
use Rattle.lp_rows.specs.Network.{IsNetwork, has_part, root_of}
use Rattle.lp_rows.specs.Voltages.{under_of}
use Rattle.lp_model.specs.LibraryView.{PinView, CellView, PgPinView}
use Rattle.lp_spec_design.specs.Keys.{Node, Name, Path}
use Rattle.lp_spec_design.specs.Netlists.{Structure, cell_at}
use Rattle.lp_spec_design.specs.Instances.{Placed, cell_instances}
use Rattle.lp_spec_design.specs.Graph.{is_output_pin}
use Rattle.lp_spec_design.specs.Intents.{SetNumber, FromPort, FromSwitch}
use Rattle.lp_spec_design.specs.Winners.{IsIn}
use Rattle.lp_spec_design.specs.Settled.{Assignment, Event, node_at_pin, state_of}
use Rattle.lp_model.specs.declared.supply.SetOrigins.{SetOrigins}
use Rattle.lp_spec_pins.specs.Pins.{Powered, PinAssignment, state_of_pg, input_for, is_data}
use Rattle.lp_spec_fit.specs.Joins.{shifter_joins}
use Rattle.lp_spec_fit.specs.Fits.{one_output}
use Rattle.lp_spec_realises.specs.Realises.{shifter_fits}
use Rattle.lp_spec_realises.specs.Projects.{Project, network_of, functions_of}
use Rattle.lp_spec_realises.specs.Surroundings.{IsWithinRows}
use Rattle.lp_spec_realises.specs.Controls.{power_of}
use Rattle.lp_spec_voltages.specs.Powers.{has_power}

-- supplies in an event: the states of the supply ports are within one row of the state table, each port has its state, a switch is on only where its input is, at the same voltage, and nothing else is on
pub record IsFedWithin (p : Project) (ev : Event) (A : Assignment) : Type 0 where
  pub network : IsNetwork p.supplies
  pub within : IsWithinRows p ev
  pub ports : (o : ℕ) → slice_get (network_of p).origins o ≡ Some FromPort → state_of A o ≡ ev.supplies o
  pub switches : (o input : ℕ) (control : Node) (high : Bool) (v : ℕ) → slice_get (network_of p).origins o ≡ Some (FromSwitch input control high)
      → state_of A o ≡ On v → state_of A input ≡ On v
  pub others : (o : ℕ) → slice_get (network_of p).origins o ≡ None → state_of A o ≡ Unknown

-- the port from which an origin is fed has states
abbrev pub has_states : Supplies → ℕ → Bool
has_states s o = has_part s (root_of s o)

-- the state of an origin, unknown where there is none
abbrev pub state_if : Assignment → Option ℕ → SupplyState
state_if A None = Unknown
state_if A (Some o) = state_of A o

-- the state of the power of a set
abbrev pub power_state : Project → Assignment → Option SetNumber → SupplyState
power_state p A k = state_if A (power_of p k)

-- a power is not on below another one by more than the margin, or one of the two is not on; whatever their grounds are
abbrev pub IsNeverUnder : ℕ → SupplyState → SupplyState → Type 0
IsNeverUnder margin r t = (g h : SupplyState) → under_of r g t h margin ≡ false

-- an input pin of a cell instance is connected to a node
pub record ConnectsInput (s : Structure) (a : Placed) (q : PinView) (k : Node) : Type 0 where
  pub placed : IsIn a (cell_instances s)
  pub cell : CellView
  pub is_cell : cell_at s a.path a.instance ≡ Some cell
  pub pin : IsIn q cell.pins
  pub input : is_output_pin q ≡ false
  pub node : node_at_pin s a.path a.instance q.name ≡ Some k

-- the cell of a shifter between two sets stands in a netlist: it fits, and its power and ground pins have the states of the origins to which they are joined
pub record StandsShifter (p : Project) (A : Assignment) (w : Powered) (B : PinAssignment) (path : Path) (x : Name) (c : CellView) (from to : SetOrigins) (d q : PinView) : Type 0 where
  pub input : SetNumber
  pub output : SetNumber
  pub input_set : functions_of p (Some input) ≡ Some from
  pub output_set : functions_of p (Some output) ≡ Some to
  pub fits : shifter_fits p (Some from) (Some to) c ≡ true
  pub data_is : input_for is_data c ≡ Some d
  pub output_is : one_output c ≡ Some q
  pub powered : has_power c d ≡ true
  pub joined : (k : ℕ) (g : PgPinView) (o : ℕ) → slice_get c.pgs k ≡ Some g → shifter_joins from to d q k g ≡ Some o
      → state_of_pg w B path x (Some g) ≡ state_of A o
