-- Assignments of a source and of a netlist that say the same: what begins at an end of the netlist has the value of the node that has to begin there, and supplies have the states of their origins (own rule).
use Rattle.std.specs.Prelude.{◌≡◌, ℕ, suc, Bool, false, List, take, Option, Some, None, if◌then◌else◌, slice_get}
use Rattle.lp_tern.specs.declared.tern.Tern.{Tern}
use Rattle.lp_tern.specs.declared.tern.Tern.TheVariants.{X}
use Rattle.lp_tern.specs.declared.supply.SupplyState.{SupplyState}
use Rattle.lp_tern.specs.declared.supply.SupplyState.TheVariants.{On, Unknown}
use Rattle.lp_model.specs.NetlistView.{ModuleView}
use Rattle.lp_behaviour.specs.Signals.{known}
use Rattle.lp_spec_design.specs.Keys.{Node}
use Rattle.lp_spec_design.specs.Netlists.{cell_at}
use Rattle.lp_spec_design.specs.Nodes.{fuel_of}
use Rattle.lp_spec_design.specs.Intents.{SetNumber, FromPort, FromSwitch}
use Rattle.lp_spec_design.specs.Domains.{BoundaryBit, node_before}
use Rattle.lp_spec_design.specs.Chains.{rail_after}
use Rattle.lp_spec_design.specs.Winners.{IsIn}
use Rattle.lp_spec_design.specs.Settled.{Assignment, Event, Registers, at, state_of, set_on, through, rail_of}
use Rattle.lp_spec_pins.specs.Pins.{SupplySource, FromTop, FromSwitched, Powered, PinAssignment, PinEvent, Pair, signal_at, state_from, related_of, state_pair, cell_output_at, top_input, switch_equation}
use Rattle.lp_spec_realises.specs.Projects.{Project, network_of, design_of}
use Rattle.lp_spec_realises.specs.ProjectNetlists.{netlist_of}
use Rattle.lp_spec_realises.specs.Operators.{OperatorAt, all_operators, chain_of, Placement, placed_operator}
use Rattle.lp_spec_realises.specs.Ends.{End, AtPin, AtSwitched, AtTop, AtConstant, Nowhere, wire_end, output_end, intended}
use Rattle.lp_spec_realises.specs.Surroundings.{powered_of}
use Rattle.lp_spec_realises.specs.Realises.{origin_end}

-- ---- what begins at an end of a netlist

abbrev pub supply_of_end : Powered → End → Option SupplySource
supply_of_end w (AtPin p x q) = None
supply_of_end w (AtSwitched p x g) = Some (FromSwitched p x g)
supply_of_end w (AtTop n j) = if w.around.is_supply n then Some (FromTop n) else None
supply_of_end w (AtConstant b) = None
supply_of_end w Nowhere = None

-- the related supply of the pin, or what drives the top input
abbrev pub pair_of_end : Powered → PinAssignment → End → Option Pair
pair_of_end w B (AtPin p x q) = related_of w B p x (cell_at w.structure p x) q
pair_of_end w B (AtSwitched p x g) = None
pair_of_end w B (AtTop n j) = Some (state_pair w B (w.around.driver n))
pair_of_end w B (AtConstant b) = None
pair_of_end w B Nowhere = None

-- the value by the equation of the pin or of the top input
abbrev pub value_of_end : Powered → PinEvent → Registers → PinAssignment → End → Tern
value_of_end w ev regs B (AtPin p x q) = cell_output_at w B regs p x q (cell_at w.structure p x)
value_of_end w ev regs B (AtSwitched p x g) = X
value_of_end w ev regs B (AtTop n j) = top_input w ev B n j (w.around.is_supply n)
value_of_end w ev regs B (AtConstant b) = known b
value_of_end w ev regs B Nowhere = X

-- the state by the equation of the switched pin or of the supply port
abbrev pub state_of_end : Powered → PinEvent → Registers → PinAssignment → End → SupplyState
state_of_end w ev regs B (AtPin p x q) = Unknown
state_of_end w ev regs B (AtSwitched p x g) = switch_equation w B regs p x g (cell_at w.structure p x)
state_of_end w ev regs B (AtTop n j) = if w.around.is_supply n then ev.supplies n else Unknown
state_of_end w ev regs B (AtConstant b) = Unknown
state_of_end w ev regs B Nowhere = Unknown

-- ---- alike

-- an assignment of the source and one of the netlist: what begins at one end of the netlist has one value, X where nothing does, each node of the source has the value of the end at which it has to begin, and each origin the state of the end at which it comes in
pub record Alike (p : Project) (modules : List ModuleView) (place : Placement) (A : Assignment) (B : PinAssignment) : Type 0 where
  pub carried : End → Tern
  pub values : (k : Node) → signal_at B k ≡ carried (wire_end (netlist_of p modules) (fuel_of (netlist_of p modules)) k)
  pub nowhere : carried Nowhere ≡ X
  pub nodes : (k : Node) → carried (intended p (netlist_of p modules) place k) ≡ at A k
  pub origins : (o : ℕ) → state_from B (supply_of_end (powered_of p modules place) (origin_end p (netlist_of p modules) place o)) ≡ state_of A o

-- the value and the supply behind so many operators of a boundary bit
abbrev pub value_behind : Project → Assignment → BoundaryBit → ℕ → Tern
value_behind p A b k = through (network_of p) p.intent A (at A (node_before p.structure b)) (take k (chain_of p b))

abbrev pub supply_behind_bit : Project → BoundaryBit → ℕ → Option SetNumber
supply_behind_bit p b k = rail_after (rail_of (design_of p) (node_before p.structure b)) (take k (chain_of p b))

-- the outputs of the operators' cells have the values behind their operators
abbrev pub OperatorsAlike : Project → List ModuleView → Placement → Assignment → (End → Tern) → Type 0
OperatorsAlike p modules place A carried =
    (o : OperatorAt) → IsIn o (all_operators p) → carried (output_end (netlist_of p modules) (placed_operator place o)) ≡ value_behind p A o.bit (suc o.number)

-- ---- supplies

-- each supply port has its state in the event, and a switch is on only where its input is, at the same voltage
pub record IsFed (p : Project) (ev : Event) (A : Assignment) : Type 0 where
  pub ports : (o : ℕ) → slice_get (network_of p).origins o ≡ Some FromPort → state_of A o ≡ ev.supplies o
  pub switches : (o input : ℕ) (control : Node) (high : Bool) (v : ℕ) → slice_get (network_of p).origins o ≡ Some (FromSwitch input control high) → state_of A o ≡ On v → state_of A input ≡ On v

-- a value is lost where its supply, if it has one, is not on
abbrev pub LostWith : Project → Assignment → Option SetNumber → Tern → Type 0
LostWith p A rail v = (r : SetNumber) → rail ≡ Some r → set_on (network_of p) A (Some r) ≡ false → v ≡ X
