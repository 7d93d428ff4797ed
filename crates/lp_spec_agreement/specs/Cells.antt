-- What the agreement of a source and a netlist asks of single cells: each cell of the source, of an operator and of a switch does at its pins what power intent says, and what the tops show agrees (own rule).
use Rattle.std.specs.Prelude.{◌≡◌, ℕ, true, [], ◌∷◌, List, Option, Some, None}
use Rattle.lp_tern.specs.declared.tern.Tern.{Tern}
use Rattle.lp_tern.specs.declared.supply.SupplyState.{SupplyState}
use Rattle.lp_tern.specs.declared.supply.SupplyState.TheVariants.{On, Off}
use Rattle.lp_tern.specs.Values.{choose_supply_of}
use Rattle.lp_model.specs.NetlistView.{ModuleView}
use Rattle.lp_model.specs.LibraryView.{PinView, CellView}
use Rattle.lp_spec_settling.specs.Settling.{Settles}
use Rattle.lp_spec_design.specs.Keys.{Name, Path, Node}
use Rattle.lp_spec_design.specs.Netlists.{cell_at}
use Rattle.lp_spec_design.specs.Instances.{Placed, cell_instances}
use Rattle.lp_spec_design.specs.Nodes.{fuel_of}
use Rattle.lp_spec_design.specs.Graph.{is_output_pin}
use Rattle.lp_spec_design.specs.Domains.{domain_of, primary_of}
use Rattle.lp_spec_design.specs.Winners.{IsIn}
use Rattle.lp_spec_design.specs.Settled.{Assignment, Event, Registers, at, state_of, set_on, kept, sensed, through, pin_named, output_of, equation}
use Rattle.lp_spec_design.specs.Registers.{States, holds_state, is_register, states_after}
use Rattle.lp_spec_design.specs.Runs.{output_bits, shown, SameRegisters}
use Rattle.lp_spec_pins.specs.Pins.{PinAssignment, state_from, switch_equation, pin_equation}
use Rattle.lp_spec_pins.specs.Registers.{states_after_by_pins}
use Rattle.lp_spec_pins.specs.Runs.{shown_by_pins}
use Rattle.lp_spec_realises.specs.Projects.{Project, network_of, design_of}
use Rattle.lp_spec_realises.specs.ProjectNetlists.{netlist_of}
use Rattle.lp_spec_realises.specs.Operators.{OperatorAt, all_operators, SwitchAt, all_switches, Placement, placed_operator, placed_switch}
use Rattle.lp_spec_realises.specs.Ends.{End, AtPin, wire_end, output_end, switched_end}
use Rattle.lp_spec_realises.specs.Tops.{index_across}
use Rattle.lp_spec_realises.specs.Surroundings.{powered_of, event_at_pins, IsWithinRows}
use Rattle.lp_spec_realises.specs.Realises.{cell_of, origin_end, data_intended}
use Rattle.lp_spec_agreement.specs.Alike.{supply_of_end, value_of_end, state_of_end, Alike, OperatorsAlike, supply_behind_bit, IsFed, LostWith}

-- the name is that of an output pin
abbrev pub IsOutput : CellView → Name → Type 0
IsOutput c q = (v : PinView) × (pin_named c q ≡ Some v) × (is_output_pin v ≡ true)

-- ---- in one event

-- assignments of both sides that are alike, with supplies that are fed as the event says, which is within the rows
pub record Meet (p : Project) (modules : List ModuleView) (place : Placement) (ev : Event) (A : Assignment) (B : PinAssignment) : Type 0 where
  pub within : IsWithinRows p ev
  pub alike : Alike p modules place A B
  pub fed : IsFed p ev A

-- and both settle, from registers with these main states
pub record Agree (p : Project) (modules : List ModuleView) (place : Placement) (ev : Event) (regs : Registers) (A : Assignment) (B : PinAssignment) : Type 0 where
  pub meet : Meet p modules place ev A B
  pub operators : OperatorsAlike p modules place A meet.alike.carried
  pub settles : Settles (equation (design_of p) ev regs) A
  pub settles_by_pins : Settles (pin_equation (powered_of p modules place) (event_at_pins p (netlist_of p modules) ev) regs) B

module _ (p : Project) (modules : List ModuleView) (place : Placement) where
  -- at the end of the netlist's pin or top input
  abbrev pub value_there : Event → Registers → PinAssignment → End → Tern
  value_there ev regs B e = value_of_end (powered_of p modules place) (event_at_pins p (netlist_of p modules) ev) regs B e

  abbrev pub state_there : Event → Registers → PinAssignment → End → SupplyState
  state_there ev regs B e = state_of_end (powered_of p modules place) (event_at_pins p (netlist_of p modules) ev) regs B e

  -- an output of a source's cell has its function where the primary supply of its domain is on
  abbrev pub SourcesAgree : Type 0
  SourcesAgree =
      (ev : Event) (regs : Registers) (A : Assignment) (B : PinAssignment) → Meet p modules place ev A B
      → (a : Placed) → IsIn a (cell_instances p.structure) → (c : CellView) → cell_of p.structure a ≡ Some c
      → (q : Name) → IsOutput c q
      → value_there ev regs B (AtPin a.path a.instance q) ≡ kept (set_on (network_of p) A (primary_of p.intent (domain_of p.intent a.path))) (output_of p.structure A regs a.path a.instance q (Some c))

  -- the output of an operator's cell is what the operator makes of the value at its data pin, which is lost with the supply that reaches it
  abbrev pub OperatorsAgree : Type 0
  OperatorsAgree =
      (ev : Event) (regs : Registers) (A : Assignment) (B : PinAssignment) (m : Meet p modules place ev A B)
      → (o : OperatorAt) → IsIn o (all_operators p)
      → LostWith p A (supply_behind_bit p o.bit o.number) (m.alike.carried (data_intended p (netlist_of p modules) place o))
      → value_there ev regs B (output_end (netlist_of p modules) (placed_operator place o))
      ≡ through (network_of p) p.intent A (m.alike.carried (data_intended p (netlist_of p modules) place o)) (o.operator ∷ [])

  -- a switched pin is on only where the input of its switch is, whatever its control
  abbrev pub SwitchesFeed : Type 0
  SwitchesFeed =
      (ev : Event) (regs : Registers) (B : PinAssignment) (x : SwitchAt) → IsIn x (all_switches p) → (v : ℕ)
      → state_there ev regs B (switched_end (netlist_of p modules) (placed_switch place x)) ≡ On v
      → state_from B (supply_of_end (powered_of p modules place) (origin_end p (netlist_of p modules) place x.input)) ≡ On v

  -- and has the state of the input where the control is active
  abbrev pub SwitchesAgree : Type 0
  SwitchesAgree =
      (ev : Event) (regs : Registers) (A : Assignment) (B : PinAssignment) → Meet p modules place ev A B
      → (x : SwitchAt) → IsIn x (all_switches p)
      → state_there ev regs B (switched_end (netlist_of p modules) (placed_switch place x)) ≡ choose_supply_of (sensed x.high (at A x.control)) (state_of A x.input) Off

  -- what cells make is decided by the source's assignment alone
  pub record Decides (ev : Event) (regs : Registers) (B C : PinAssignment) : Type 0 where
    pub values : (k : Node) → value_there ev regs B (wire_end (netlist_of p modules) (fuel_of (netlist_of p modules)) k) ≡ value_there ev regs C (wire_end (netlist_of p modules) (fuel_of (netlist_of p modules)) k)
    pub states : (q : Path) (x g : Name) → switch_equation (powered_of p modules place) B regs q x g (cell_at (netlist_of p modules) q x) ≡ switch_equation (powered_of p modules place) C regs q x g (cell_at (netlist_of p modules) q x)

  abbrev pub CellsDecided : Type 0
  CellsDecided =
      (ev : Event) (regs : Registers) (A : Assignment) (B C : PinAssignment) (m : Meet p modules place ev A B) (n : Meet p modules place ev A C)
      → OperatorsAlike p modules place A m.alike.carried → OperatorsAlike p modules place A n.alike.carried → Decides ev regs B C

  -- the bit of a top output at the same place from the left in the netlist
  abbrev pub bit_across : Name × Option ℕ → Name × Option ℕ
  bit_across b = (b.0, index_across p.structure (netlist_of p modules) b.0 b.1)

  -- each output of the top shows the same
  abbrev pub OutputsAgree : Type 0
  OutputsAgree =
      (ev : Event) (regs : Registers) (A : Assignment) (B : PinAssignment) → Agree p modules place ev regs A B
      → (b : Name × Option ℕ) → IsIn b (output_bits p.structure) → shown (design_of p) A b ≡ shown_by_pins (powered_of p modules place) B (bit_across b)

  -- ---- registers

  -- the netlist has no register that the source lacks
  abbrev pub NoOtherRegister : Type 0
  NoOtherRegister = (q : Path) (x : Name) → holds_state (cell_at (netlist_of p modules) q x) ≡ true → is_register p.structure q x ≡ true

  -- what settled in the event before, on both sides or on none
  abbrev pub AgreedBefore : Option Assignment → Option PinAssignment → Type 0
  AgreedBefore None None = Unit {0}
  AgreedBefore (Some A) (Some B) = (ev : Event) × (regs : Registers) × Agree p modules place ev regs A B
  AgreedBefore _ _ = ⊥

  -- registers that are the same stay so
  abbrev pub RegistersAgree : Type 0
  RegistersAgree =
      (last : Option Assignment) (last_pins : Option PinAssignment) → AgreedBefore last last_pins
      → (ev : Event) (s t : States) (A : Assignment) (B : PinAssignment) → Agree p modules place ev s.main A B
      → SameRegisters (design_of p) s t
      → SameRegisters (design_of p) (states_after (design_of p) last A s) (states_after_by_pins (powered_of p modules place) last_pins B t)

-- ---- the whole

-- what is left to be shown of single cells: the others follow from how the netlist is built
pub record CellsAgree (p : Project) (modules : List ModuleView) (place : Placement) : Type 0 where
  pub sources : SourcesAgree p modules place
  pub operators : OperatorsAgree p modules place
  pub switches : SwitchesAgree p modules place
  pub outputs : OutputsAgree p modules place
  pub registers : RegistersAgree p modules place

pub record AllAgree (p : Project) (modules : List ModuleView) (place : Placement) : Type 0 where
  pub sources : SourcesAgree p modules place
  pub operators : OperatorsAgree p modules place
  pub switches_feed : SwitchesFeed p modules place
  pub switches : SwitchesAgree p modules place
  pub decided : CellsDecided p modules place
  pub outputs : OutputsAgree p modules place
  pub no_other_register : NoOtherRegister p modules place
  pub registers : RegistersAgree p modules place
