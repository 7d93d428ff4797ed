-- The statements of the laws of this crate (own rule).
use Rattle.lp_model.specs.declared.library.Action.{Action}
use Rattle.std.specs.Prelude.{◌≡◌, ℕ, suc, take, drop, List, ◌++◌, ◌∷◌, [], Option, Some, None, true, false, slice_get, ◌⊎◌, if◌then◌else◌, ◌==◌}
use Rattle.lp_tern.specs.declared.tern.Tern.{Tern}
use Rattle.lp_tern.specs.declared.tern.Tern.TheVariants.{X}
use Rattle.lp_tern.specs.declared.supply.SupplyState.{SupplyState}
use Rattle.lp_tern.specs.declared.supply.SupplyState.TheVariants.{On}
use Rattle.lp_model.specs.declared.library.Shifter.{Shifter}
use Rattle.lp_model.specs.declared.supply.SetOrigins.{SetOrigins}
use Rattle.lp_model.specs.declared.supply.Supplies.{Supplies}
use Rattle.lp_model.specs.LibraryView.{PinView, CellView, PgPinView}
use Rattle.lp_rows.specs.Network.{IsNetwork, input_of, root_of}
use Rattle.lp_spec_settling.specs.Settling.{Settles}
use Rattle.lp_spec_design.specs.Keys.{Name, Node, Outer, Way, Path, Environment}
use Rattle.lp_spec_design.specs.Instances.{Placed}
use Rattle.lp_spec_design.specs.Nodes.{HasFuel}
use Rattle.lp_spec_design.specs.Intents.{SetNumber, Intent, Network, Strategy}
use Rattle.lp_spec_design.specs.Domains.{boundary, domain_of, primary_of, source_supply, reader_supply}
use Rattle.lp_spec_design.specs.Winners.{IsIn}
use Rattle.lp_spec_design.specs.Chains.{Operator, Clamp, Shift, rail_after}
use Rattle.lp_spec_design.specs.Settled.{Assignment, Design, Event, Registers, SettlesIntent, at, is_under, kept, operators_of, rail_of, set_on, state_of, through, node_at_pin}
use Rattle.lp_spec_design.specs.Registers.{States, retention}
use Rattle.lp_spec_design.specs.Runs.{equation_in, output_bits, shown}
use Rattle.lp_spec_pins.specs.Pins.{Pair, is_outside, pair_under, input_for, is_data, Powered, PinAssignment, signal_at, supply_of_node, driving, read_by, related, state_of_pg, state_at, state_pair, driving_pin, is_unfit}
use Rattle.lp_spec_network.specs.Views.{lower_origins}
use Rattle.lp_spec_network.specs.Pairs.{paired, pairs_of}
use Rattle.lp_spec_fit.specs.Fits.{takes_pairs, one_output, fits_clamp, fits_register, plain_pins, retention_pins, fits_shifter}
use Rattle.lp_spec_fit.specs.Needs.{ClampNeed, RegisterNeed, ShifterNeed}
use Rattle.lp_spec_fit.specs.Joins.{source_joins, register_joins, clamp_joins, all_joined, shifter_joins, Joins}
use Rattle.lp_spec_realises.specs.Projects.{Project, design_of, functions_of, network_of}
use Rattle.lp_spec_realises.specs.Operators.{OperatorAt, all_operators, chain_of, SwitchAt, all_switches, Placement}
use Rattle.lp_spec_realises.specs.Realises.{shifter_fits}
use Rattle.lp_spec_realises.specs.Surroundings.{IsWithinRows, powered_of, supply_node}
use Rattle.lp_spec_realises.specs.Controls.{power_of_rail}
use Rattle.lp_model.specs.NetlistView.{ModuleView}
use Rattle.lp_spec_design.specs.Graph.{TopOutput}
use Rattle.lp_spec_realises.specs.ProjectNetlists.{netlist_of}
use Rattle.lp_spec_faults.specs.Lines.{first_of}
use Rattle.lp_spec_faults.specs.Supplies.{no_states}
use Rattle.lp_spec_faults.specs.Strategies.{rail_to_bit, registers}
use Rattle.lp_spec_faults.specs.Readings.{Reading, all_readings, reaching_rail, reading_supply, uncovered_level, ControlRead, control_reads, control_level}
use Rattle.lp_spec_voltages.specs.Powers.{has_power, power_origin}
use Rattle.lp_spec_voltages.specs.Voltages.{IsFedWithin, has_states, state_if, power_state, IsNeverUnder, ConnectsInput, StandsShifter}

-- ---- the states of origins

-- so are the supplies of an assignment that settles under intent
abbrev pub SettledIsFed : Type 0
SettledIsFed =
    (p : Project) (ev : Event) (s : States) (A : Assignment) → IsNetwork p.supplies → IsWithinRows p ev
    → Settles (equation_in (design_of p) ev s) A
    → IsFedWithin p ev A

-- a switch that is on has the state of its input
abbrev pub OnAsItsInput : Type 0
OnAsItsInput =
    (p : Project) (ev : Event) (A : Assignment) → IsFedWithin p ev A
    → (o i v : ℕ) → input_of p.supplies o ≡ Some i → state_of A o ≡ On v
    → state_of A i ≡ On v

-- an origin that is on has the state of its root
abbrev pub OnAsItsRoot : Type 0
OnAsItsRoot =
    (p : Project) (ev : Event) (A : Assignment) → IsFedWithin p ev A
    → (o v : ℕ) → state_of A o ≡ On v
    → state_of A (root_of p.supplies o) ≡ On v

-- without the fault NoStates the port that feeds the power of a used set has states, and so has the one that feeds the input of a switch
abbrev pub PowersHaveStates : Type 0
PowersHaveStates =
    (s : Supplies) → IsNetwork s → first_of (no_states s) ≡ None
    → (k : ℕ) (set : SetOrigins) → slice_get s.sets k ≡ Some (Some set)
    → has_states s set.power.0 ≡ true

abbrev pub InputsHaveStates : Type 0
InputsHaveStates =
    (s : Supplies) → IsNetwork s → first_of (no_states s) ≡ None
    → (o i : ℕ) → input_of s o ≡ Some i
    → has_states s i ≡ true

-- what the state table does not allow to be lower is not under
abbrev pub WithinNotLower : Type 0
WithinNotLower =
    (p : Project) (ev : Event) (A : Assignment) → IsFedWithin p ev A
    → (a b margin : ℕ) → has_states p.supplies a ≡ true → has_states p.supplies b ≡ true
    → lower_origins p.supplies a b margin ≡ false
    → IsNeverUnder margin (state_of A a) (state_of A b)

-- ---- voltages of two supplies

-- the voltages of two origins that are on are one of the pairs that the state table allows
abbrev pub PairsHoldTheVoltages : Type 0
PairsHoldTheVoltages =
    (p : Project) (ev : Event) (A : Assignment) → IsFedWithin p ev A
    → (a b v w : ℕ) → has_states p.supplies a ≡ true → has_states p.supplies b ≡ true
    → state_of A a ≡ On v → state_of A b ≡ On w
    → IsIn (paired v w) (pairs_of p.supplies a b)

-- so a shifter that takes all of these is never outside its type and ranges, whatever the grounds are
abbrev pub TakenIsInside : Type 0
TakenIsInside =
    (p : Project) (ev : Event) (A : Assignment) → IsFedWithin p ev A
    → (a b : ℕ) (f : Shifter) → has_states p.supplies a ≡ true → has_states p.supplies b ≡ true
    → takes_pairs (pairs_of p.supplies a b) (Some f) ≡ true
    → (g h : SupplyState)
    → is_outside f (record { power = state_of A a; gnd = g }) (record { power = state_of A b; gnd = h }) ≡ false

-- the state of the power of a set is that of the origin of its power function
abbrev pub PowerOfFunctions : Type 0
PowerOfFunctions =
    (p : Project) (A : Assignment) (k : Option SetNumber) (x : SetOrigins)
    → functions_of p k ≡ Some x
    → power_state p A k ≡ state_of A x.power.0

-- a cell that fits a shifter is never outside its type and ranges
abbrev pub FittingIsInside : Type 0
FittingIsInside =
    (p : Project) (ev : Event) (A : Assignment) → IsFedWithin p ev A → first_of (no_states p.supplies) ≡ None
    → (a b : SetNumber) (x y : SetOrigins) → functions_of p (Some a) ≡ Some x → functions_of p (Some b) ≡ Some y
    → (c : CellView) (f : Shifter) → shifter_fits p (Some x) (Some y) c ≡ true → c.roles.shifter ≡ Some f
    → (g h : SupplyState)
    → is_outside f (record { power = state_of A x.power.0; gnd = g }) (record { power = state_of A y.power.0; gnd = h }) ≡ false

-- where its data and its output relate to one power pin, its input supply is never under its output supply
abbrev pub SharedPowerIsNotUnder : Type 0
SharedPowerIsNotUnder =
    (p : Project) (ev : Event) (A : Assignment) → IsFedWithin p ev A → first_of (no_states p.supplies) ≡ None
    → (a b : SetNumber) (x y : SetOrigins) → functions_of p (Some a) ≡ Some x → functions_of p (Some b) ≡ Some y
    → (c : CellView) (d q : PinView) → shifter_fits p (Some x) (Some y) c ≡ true
    → input_for is_data c ≡ Some d → one_output c ≡ Some q → d.power ≡ q.power
    → IsNeverUnder p.margin (state_of A x.power.0) (state_of A y.power.0)

-- and a supply is never under itself
abbrev pub NeverUnderItself : Type 0
NeverUnderItself = (margin : ℕ) (r : SupplyState) → IsNeverUnder margin r r

-- ---- what reads

-- no reader is under what reaches it
abbrev pub NoReaderIsUnder : Type 0
NoReaderIsUnder =
    (p : Project) (ev : Event) (A : Assignment) → IsFedWithin p ev A
    → first_of (no_states p.supplies) ≡ None → first_of (uncovered_level p) ≡ None
    → (x : Reading) → IsIn x (all_readings p)
    → IsNeverUnder p.margin (power_state p A (reaching_rail p x)) (power_state p A (reading_supply p x))

abbrev pub NoReadingSetIsUnder : Type 0
NoReadingSetIsUnder =
    (p : Project) (ev : Event) (A : Assignment) → IsFedWithin p ev A
    → first_of (no_states p.supplies) ≡ None → first_of (uncovered_level p) ≡ None
    → (x : Reading) → IsIn x (all_readings p)
    → is_under (network_of p) A (reaching_rail p x) (reading_supply p x) ≡ false

abbrev pub NoClampIsUnder : Type 0
NoClampIsUnder =
    (p : Project) (ev : Event) (A : Assignment) → IsFedWithin p ev A
    → first_of (no_states p.supplies) ≡ None → first_of (uncovered_level p) ≡ None
    → (o : OperatorAt) (t : ℕ) (i : SetNumber) → IsIn o (all_operators p) → o.operator ≡ Clamp t i
    → IsNeverUnder p.margin (power_state p A (rail_after (rail_to_bit p o.bit) (take o.number (chain_of p o.bit)))) (power_state p A (Some i))

abbrev pub NoInputIsUnder : Type 0
NoInputIsUnder =
    (p : Project) (ev : Event) (A : Assignment) → IsFedWithin p ev A
    → first_of (no_states p.supplies) ≡ None → first_of (uncovered_level p) ≡ None
    → (a : Placed) (q : PinView) (k : Node) → ConnectsInput p.structure a q k
    → IsNeverUnder p.margin (power_state p A (rail_of (design_of p) k)) (power_state p A (primary_of p.intent (domain_of p.intent a.path)))

abbrev pub NoOutputIsUnder : Type 0
NoOutputIsUnder =
    (p : Project) (ev : Event) (A : Assignment) → IsFedWithin p ev A
    → first_of (no_states p.supplies) ≡ None → first_of (uncovered_level p) ≡ None
    → (b : Name × Option ℕ) → IsIn b (output_bits p.structure)
    → IsNeverUnder p.margin (power_state p A (rail_of (design_of p) (Outer b.0 b.1))) (power_state p A (reader_supply p.intent (TopOutput b.0 b.1)))

-- a top output shows its node
abbrev pub OutputsShowTheirNodes : Type 0
OutputsShowTheirNodes =
    (p : Project) (ev : Event) (A : Assignment) → IsFedWithin p ev A
    → first_of (no_states p.supplies) ≡ None → first_of (uncovered_level p) ≡ None
    → (b : Name × Option ℕ) → IsIn b (output_bits p.structure)
    → shown (design_of p) A b ≡ at A (Outer b.0 b.1)

-- no control is under what it controls
abbrev pub NoControlIsUnder : Type 0
NoControlIsUnder =
    (p : Project) (ev : Event) (A : Assignment) → IsFedWithin p ev A
    → first_of (no_states p.supplies) ≡ None
    → (commands : ℕ → ℕ) → first_of (control_level p commands) ≡ None
    → (x : ControlRead) → IsIn x (control_reads p commands)
    → IsNeverUnder p.margin (state_if A (power_of_rail p x.control)) (state_if A x.reader)

-- nor is the control of a clamp, of a switch, or of a register with retention, which both its supplies read
abbrev pub NoEnableIsUnder : Type 0
NoEnableIsUnder =
    (p : Project) (ev : Event) (A : Assignment) → IsFedWithin p ev A
    → first_of (no_states p.supplies) ≡ None
    → (commands : ℕ → ℕ) → first_of (control_level p commands) ≡ None
    → (o : OperatorAt) (t : ℕ) (i : SetNumber) (y : Strategy) (k : Node) → IsIn o (all_operators p) → o.operator ≡ Clamp t i
    → slice_get p.intent.strategies t ≡ Some y → y.control ≡ Some k
    → IsNeverUnder p.margin (power_state p A (rail_of (design_of p) k)) (power_state p A (Some i))

abbrev pub NoSwitchPinIsUnder : Type 0
NoSwitchPinIsUnder =
    (p : Project) (ev : Event) (A : Assignment) → IsFedWithin p ev A
    → first_of (no_states p.supplies) ≡ None
    → (commands : ℕ → ℕ) → first_of (control_level p commands) ≡ None
    → (x : SwitchAt) → IsIn x (all_switches p)
    → IsNeverUnder p.margin (power_state p A (rail_of (design_of p) x.control)) (state_of A x.input)

abbrev pub NoRetentionPinIsUnder : Type 0
NoRetentionPinIsUnder =
    (p : Project) (ev : Event) (A : Assignment) → IsFedWithin p ev A
    → first_of (no_states p.supplies) ≡ None
    → (commands : ℕ → ℕ) → first_of (control_level p commands) ≡ None
    → (a : Placed) (y : Strategy) (k : Node) (action : Action) → IsIn a (registers p) → retention p.intent a.path a.instance ≡ Some y
    → (y.save ≡ Some (k, action)) ⊎ (y.restore ≡ Some (k, action))
    → IsNeverUnder p.margin (power_state p A (rail_of (design_of p) k)) (power_state p A (primary_of p.intent (domain_of p.intent a.path)))
    × IsNeverUnder p.margin (power_state p A (rail_of (design_of p) k)) (power_state p A y.supply)

-- sets of which the first power is never under the second are not under
abbrev pub SetsByTheirPowers : Type 0
SetsByTheirPowers =
    (p : Project) (A : Assignment) (r t : Option SetNumber)
    → IsNeverUnder p.margin (power_state p A r) (power_state p A t)
    → is_under (network_of p) A r t ≡ false

-- nor are related supplies with such powers, whatever counts as their grounds
abbrev pub PairsByTheirPowers : Type 0
PairsByTheirPowers =
    (margin : ℕ) (a b : SupplyState) → IsNeverUnder margin a b
    → (x y : Pair) → x.power ≡ a → y.power ≡ b
    → pair_under margin x y ≡ false

-- so a pin whose driver, if it has one, has a power that is never under the pin's own reads its node
abbrev pub ReadsItsNode : Type 0
ReadsItsNode =
    (w : Powered) (B : PinAssignment) (k : Node) (t : Pair) (a b : SupplyState) → IsNeverUnder w.around.margin a b
    → supply_of_node w k ≡ None → ((r : Pair) → driving w B k ≡ Some r → r.power ≡ a) → t.power ≡ b
    → read_by w B k t ≡ signal_at B k

-- ---- chains

-- an operator stands in the chain of its bit at its number
abbrev pub OperatorsStandInTheirChain : Type 0
OperatorsStandInTheirChain =
    (p : Project) (o : OperatorAt) → IsIn o (all_operators p)
    → IsIn o.bit (boundary p.structure p.intent) × (chain_of p o.bit ≡ take o.number (chain_of p o.bit) ++ (o.operator ∷ drop (suc o.number) (chain_of p o.bit)))

-- the input supply of a shifter is the rail that reaches it
abbrev pub ShiftersTakeTheirRail : Type 0
ShiftersTakeTheirRail =
    (p : Project) (o : OperatorAt) (t : ℕ) (a b : SetNumber) → IsIn o (all_operators p) → o.operator ≡ Shift t a b
    → rail_after (rail_to_bit p o.bit) (take o.number (chain_of p o.bit)) ≡ Some a

abbrev pub WaysTakeTheirRail : Type 0
WaysTakeTheirRail =
    (d : Design) (w : Way) (r : Option SetNumber) (front back : List Operator) (t : ℕ) (i o : SetNumber)
    → operators_of d w r ≡ front ++ (Shift t i o ∷ back)
    → rail_after r front ≡ Some i

-- what comes from a rail that is off is lost, also between two operators
abbrev pub LostBehindAnOffRail : Type 0
LostBehindAnOffRail =
    (d : Design) (ev : Event) (regs : Registers) (A : Assignment) → SettlesIntent d ev regs A → HasFuel d.structure
    → (k : Node) (front : List Operator) (a : SetNumber) → rail_after (rail_of d k) front ≡ Some a → set_on d.network A (Some a) ≡ false
    → through d.network d.intent A (at A k) front ≡ X

-- so a shifter that is lost with its output supply alone gives the intended value
abbrev pub ShiftedByTheOutput : Type 0
ShiftedByTheOutput =
    (n : Network) (i : Intent) (A : Assignment) (v : Tern) (t : ℕ) (a b : SetNumber) → (set_on n A (Some a) ≡ false → v ≡ X)
    → through n i A v (Shift t a b ∷ []) ≡ kept (set_on n A (Some b)) v

-- ---- the powers of pins

-- each pin of a cell of the source has the power of its domain's primary supply
abbrev pub SourcePowers : Type 0
SourcePowers =
    (c : CellView) (s : SetOrigins) (q : PinView)
    → has_power c q ≡ true → all_joined c (source_joins s) ≡ true
    → power_origin c (source_joins s) q ≡ Some s.power.0

-- so has each pin of a retention register that its source has too, and a retention pin has this power or that of the retention supply
abbrev pub RegisterPowers : Type 0
RegisterPowers =
    (n : RegisterNeed) (c : CellView) (q : PinView)
    → fits_register n c ≡ true → IsIn q (plain_pins c) → has_power c q ≡ true
    → power_origin c (register_joins n.primary n.retention) q ≡ Some n.primary.power.0

abbrev pub RetentionPowers : Type 0
RetentionPowers =
    (n : RegisterNeed) (c : CellView) (q : PinView)
    → fits_register n c ≡ true → IsIn q (retention_pins c) → has_power c q ≡ true
    → (power_origin c (register_joins n.primary n.retention) q ≡ Some n.primary.power.0)
    ⊎ (power_origin c (register_joins n.primary n.retention) q ≡ Some n.retention.power.0)

-- each pin of a clamp has the power of the clamp's supply
abbrev pub ClampPowers : Type 0
ClampPowers =
    (n : ClampNeed) (c : CellView) (q : PinView)
    → fits_clamp n c ≡ true → IsIn q c.pins
    → power_origin c (clamp_joins n.supply n.place c) q ≡ Some n.supply.power.0

-- the output of a shifter has the power of its output supply, and so has its data pin where both relate to one power pin, else that of its input supply
abbrev pub ShifterOutputPower : Type 0
ShifterOutputPower =
    (n : ShifterNeed) (c : CellView) (d y : PinView)
    → fits_shifter n c ≡ true → input_for is_data c ≡ Some d → one_output c ≡ Some y
    → power_origin c (shifter_joins n.input n.output d y) y ≡ Some n.output.power.0

abbrev pub ShifterDataPower : Type 0
ShifterDataPower =
    (n : ShifterNeed) (c : CellView) (d y : PinView)
    → fits_shifter n c ≡ true → input_for is_data c ≡ Some d → one_output c ≡ Some y → has_power c d ≡ true
    → power_origin c (shifter_joins n.input n.output d y) d ≡ (if d.power == y.power then Some n.output.power.0 else Some n.input.power.0)

-- the related supply of a pin has the state of the origin of its power, where the power and ground pins have the states of the origins to which they are joined
abbrev pub PinPowerStands : Type 0
PinPowerStands =
    (w : Powered) (B : PinAssignment) (path : Path) (x : Name) (c : CellView) (join : Joins) (st : ℕ → SupplyState)
    → ((k : ℕ) (g : PgPinView) (o : ℕ) → slice_get c.pgs k ≡ Some g → join k g ≡ Some o → state_of_pg w B path x (Some g) ≡ st o)
    → (q : PinView) (o : ℕ) → power_origin c join q ≡ Some o
    → (related w B path x c q).power ≡ st o

-- so a pin reads its node where the power of the node's driver, if it has one, is never under the state of that origin
abbrev pub PinsReadTheirNodes : Type 0
PinsReadTheirNodes =
    (w : Powered) (B : PinAssignment) (path : Path) (x : Name) (c : CellView) (join : Joins) (st : ℕ → SupplyState)
    → ((k : ℕ) (g : PgPinView) (o : ℕ) → slice_get c.pgs k ≡ Some g → join k g ≡ Some o → state_of_pg w B path x (Some g) ≡ st o)
    → (q : PinView) (o : ℕ) → power_origin c join q ≡ Some o
    → (k : Node) (a : SupplyState) → IsNeverUnder w.around.margin a (st o)
    → supply_of_node w k ≡ None → ((r : Pair) → driving w B k ≡ Some r → r.power ≡ a)
    → read_by w B k (related w B path x c q) ≡ signal_at B k

-- the supplies that drive and read the ports of the top have the powers of their sets, where origins come in with their states
abbrev pub TopPowers : Type 0
TopPowers =
    (p : Project) (modules : List ModuleView) (place : Placement) (A : Assignment) (B : PinAssignment)
    → ((o : ℕ) → state_at (powered_of p modules place) B (supply_node p (netlist_of p modules) place o) ≡ state_of A o)
    → (n : Name)
    → ((state_pair (powered_of p modules place) B ((powered_of p modules place).around.driver n)).power ≡ power_state p A (source_supply p.intent (Outer n None) (Some Environment)))
    × ((state_pair (powered_of p modules place) B ((powered_of p modules place).around.receiver n)).power ≡ power_state p A (reader_supply p.intent (TopOutput n None)))

-- so a shifter that stands in a netlist is never outside its type and ranges, also where it takes its input supply from what drives its data, and it reads its data
abbrev pub ShiftersAreNeverUnfit : Type 0
ShiftersAreNeverUnfit =
    (p : Project) (ev : Event) (A : Assignment) → IsFedWithin p ev A → first_of (no_states p.supplies) ≡ None
    → (w : Powered) (B : PinAssignment) (path : Path) (name : Name) (c : CellView) (x y : SetOrigins) (d q : PinView) → StandsShifter p A w B path name c x y d q
    → ((r : Pair) → driving_pin w B (node_at_pin w.structure path name d.name) ≡ Some r → r.power ≡ state_of A x.power.0)
    → is_unfit w B path name c q ≡ false

abbrev pub ShiftersReadTheirData : Type 0
ShiftersReadTheirData =
    (p : Project) (ev : Event) (A : Assignment) → IsFedWithin p ev A → first_of (no_states p.supplies) ≡ None
    → (w : Powered) (B : PinAssignment) (path : Path) (name : Name) (c : CellView) (x y : SetOrigins) (d q : PinView) → StandsShifter p A w B path name c x y d q
    → w.around.margin ≡ p.margin
    → (k : Node) → supply_of_node w k ≡ None → ((r : Pair) → driving w B k ≡ Some r → r.power ≡ state_of A x.power.0)
    → read_by w B k (related w B path name c d) ≡ signal_at B k
