-- The lines of the table of faults about what drives, reads and controls, and about cells (own rule).
use Rattle.std.specs.Prelude.{ℕ, zero, suc, ◌==◌, Bool, true, false, not, ◌&&◌, ◌||◌, if◌then◌else◌, List, [], ◌∷◌, ◌++◌, map, filter, take, Option, Some, None, is_some, option_and_then, slice_get, flat_map}
use Rattle.std.specs.List.{list_any}
use Rattle.lp_model.specs.declared.intent.StrategyKind.{StrategyKind}
use Rattle.lp_model.specs.declared.intent.StrategyKind.TheVariants.{Isolation, Shifting}
use Rattle.lp_model.specs.declared.library.Action.{Action}
use Rattle.lp_model.specs.declared.side.Side.TheVariants.{Upper, Lower}
use Rattle.lp_model.specs.declared.supply.SetOrigins.{SetOrigins}
use Rattle.lp_model.specs.LibraryView.{CellView}
use Rattle.lp_spec_design.specs.Keys.{Name, Path, Node, Outer, Source, CellPin, Environment}
use Rattle.lp_spec_design.specs.Instances.{Placed, cell_instances}
use Rattle.lp_spec_design.specs.Nodes.{fuel_of, inner_nodes}
use Rattle.lp_spec_design.specs.Graph.{source_of, trail, beginning, some_of, numbered, Reader, readers}
use Rattle.lp_spec_design.specs.Intents.{SetNumber, Strategy}
use Rattle.lp_spec_design.specs.Domains.{BoundaryBit, node_before, reader_supply, primary_of}
use Rattle.lp_spec_design.specs.Winners.{winner}
use Rattle.lp_spec_design.specs.Chains.{Operator, Clamp, Shift, rail_after, bit_of_way}
use Rattle.lp_spec_design.specs.Registers.{retention, retention_winner}
use Rattle.lp_spec_design.specs.Settled.{Key, At, rail_of}
use Rattle.lp_spec_design.specs.Reads.{reads, same_key}
use Rattle.lp_rows.specs.Leaks.{leaks_in}
use Rattle.lp_rows.specs.Rows.{lower_in}
use Rattle.lp_spec_network.specs.Views.{first_row, lower_sets, leaking_sets}
use Rattle.lp_spec_fit.specs.PowerDown.{is_unfit_power}
use Rattle.lp_spec_realises.specs.Projects.{Project, network_of, design_of}
use Rattle.lp_spec_realises.specs.Operators.{OperatorAt, all_operators, chain_of, SwitchAt, all_switches}
use Rattle.lp_spec_realises.specs.Realises.{cell_of, primary_at}
use Rattle.lp_spec_realises.specs.Controls.{reads_too_low, power_of, power_of_rail}
use Rattle.lp_spec_realises.specs.Implements.{Lists, strategy_of, operator_path, operator_chosen, switch_chosen, register_chosen}
use Rattle.lp_spec_faults.specs.Lines.{Line}
use Rattle.lp_spec_faults.specs.Order.{in_command_order}
use Rattle.lp_spec_faults.specs.Strategies.{registers, rail_to_bit, crossing_of}

-- ---- F66 UnfitPower: the power-down of an output or of the state of a cell is not that of the primary supply

abbrev pub is_unfit_by : Option SetOrigins → Option CellView → Bool
is_unfit_by (Some s) (Some c) = is_unfit_power c s
is_unfit_by _ _ = true

abbrev pub unfit_power : Project → Line Placed
unfit_power p = record { places = cell_instances p.structure; test = λ (a : Placed). is_unfit_by (primary_at p a.path) (cell_of p.structure a) }

-- ---- what reads: the data pins of clamps in port order, then the cell input pins, then the top outputs

pub data Reading : Type 0 where
  ClampReads : OperatorAt → Reading
  PinReads : Reader → Node → Reading

abbrev pub is_clamp : OperatorAt → Bool
is_clamp o = by o.operator
  where
    by : Operator → Bool
    by (Clamp t i) = true
    by (Shift t a b) = false

abbrev pub all_readings : Project → List Reading
all_readings p = map (λ o. ClampReads o) (filter is_clamp (all_operators p)) ++ map (λ r. PinReads r.0 r.1) (readers p.structure)

-- the supply that reads: a clamp's own, a reader's by its domain or its port
abbrev pub reading_supply : Project → Reading → Option SetNumber
reading_supply p (ClampReads o) = by o.operator
  where
    by : Operator → Option SetNumber
    by (Clamp t i) = Some i
    by (Shift t a b) = Some a
reading_supply p (PinReads r k) = reader_supply p.intent r

-- the rail that reaches it: behind the operators before a clamp, and that of a reader's node
abbrev pub reaching_rail : Project → Reading → Option SetNumber
reaching_rail p (ClampReads o) = rail_after (rail_to_bit p o.bit) (take o.number (chain_of p o.bit))
reaching_rail p (PinReads r k) = rail_of (design_of p) k

-- what drives it in the end, the first field of F53, F54 and F55: a pin of a cell instance, a bit of a top input, or nothing, also where the way begins at a constant
pub data Driver : Type 0 where
  OfPin : Path → Name → Name → Driver
  OfInput : Name → Option ℕ → Driver
  OfNothing : Driver

abbrev pub driver_by : Node → Option Source → Driver
driver_by k (Some (CellPin q x n)) = OfPin q x n
driver_by (Outer n j) (Some Environment) = OfInput n j
driver_by k _ = OfNothing

abbrev pub driver_of : Project → Node → Driver
driver_of p k = by (beginning k (trail p.structure (fuel_of p.structure) k))
  where
    by : Node → Driver
    by j = driver_by j (source_of p.structure j)

-- before a clamp it is what drives its boundary bit
abbrev pub driver_read : Project → Reading → Driver
driver_read p (ClampReads o) = driver_of p (node_before p.structure o.bit)
driver_read p (PinReads r k) = driver_of p k

abbrev pub of_both : (SetNumber → SetNumber → Bool) → Option SetNumber → Option SetNumber → Bool
of_both test (Some r) (Some t) = test r t
of_both test _ _ = false

-- the reaching rail may be lower than the reader by more than the margin
abbrev pub is_level_uncovered : Project → Reading → Bool
is_level_uncovered p x = of_both (λ r t. lower_sets p.supplies r t p.margin) (reaching_rail p x) (reading_supply p x)

-- ---- F55 ShiftForbidden and F54 UncoveredLevel

-- a winner of a kind that inserts nothing stands on one of the sides of a bit
abbrev pub inserts_nothing : Option (ℕ × Strategy) → Bool
inserts_nothing None = false
inserts_nothing (Some t) = not t.1.inserts

abbrev pub is_forbidden : Project → StrategyKind → BoundaryBit → Bool
is_forbidden p kind b =
    inserts_nothing (winner (network_of p) p.intent kind Upper (crossing_of p b))
    || inserts_nothing (winner (network_of p) p.intent kind Lower (crossing_of p b))

-- the boundary bits on the way to a node, the last one first
abbrev pub bits_before : Project → Node → List BoundaryBit
bits_before p k = some_of (λ step. bit_of_way p.structure p.intent step.0) (trail p.structure (fuel_of p.structure) k)

abbrev pub bits_of_reading : Project → Reading → List BoundaryBit
bits_of_reading p (ClampReads o) = o.bit ∷ []
bits_of_reading p (PinReads r k) = bits_before p k

abbrev pub last_forbids : Project → List BoundaryBit → Bool
last_forbids p [] = false
last_forbids p (b ∷ rest) = is_forbidden p Shifting b

abbrev pub shift_forbidden : Project → Line Reading
shift_forbidden p = record { places = all_readings p; test = λ x. is_level_uncovered p x && last_forbids p (bits_of_reading p x) }

-- the first row that shows it
abbrev pub row_of_lower : Project → Option ℕ → Option ℕ → Option ℕ
row_of_lower p (Some a) (Some b) = first_row p.supplies (λ row. lower_in p.supplies row a b p.margin)
row_of_lower p _ _ = None

abbrev pub row_of_level : Project → Reading → Option ℕ
row_of_level p x = row_of_lower p (power_of p (reaching_rail p x)) (power_of p (reading_supply p x))

abbrev pub uncovered_level : Project → Line Reading
uncovered_level p = record { places = all_readings p; test = is_level_uncovered p }

-- ---- F53 UncoveredIsolation: the rail of a reader may be off while the reader is on, and no bit on the way has a winner without isolation

abbrev pub is_leaking : Project → Reader × Node → Bool
is_leaking p r = of_both (leaking_sets p.supplies) (rail_of (design_of p) r.1) (reader_supply p.intent r.0)

-- the first row that shows a leak
abbrev pub row_of_leak : Project → Reader × Node → Option ℕ
row_of_leak p r = by (power_of p (rail_of (design_of p) r.1)) (power_of p (reader_supply p.intent r.0))
  where
    by : Option ℕ → Option ℕ → Option ℕ
    by (Some a) (Some b) = first_row p.supplies (λ row. leaks_in p.supplies row a b)
    by _ _ = None

abbrev pub uncovered_isolation : Project → Line (Reader × Node)
uncovered_isolation p = record { places = readers p.structure; test = λ (r : Reader × Node). is_leaking p r && not (list_any (is_forbidden p Isolation) (bits_before p r.1)) }

-- ---- F59 ControlLevel: the rail of a control may be lower than a supply that reads it

-- a strategy, or a switch by its origin
pub data Asks : Type 0 where
  StrategyAsks : ℕ → Asks
  SwitchAsks : ℕ → Asks

pub record ControlRead : Type 0 where
  pub asks : Asks
  pub control : Node
  pub reader : Option ℕ

abbrev pub control_read : Project → ℕ → Option Node → Option ℕ → List ControlRead
control_read p t None reader = []
control_read p t (Some k) reader = record { asks = StrategyAsks t; control = k; reader = reader } ∷ []

abbrev pub clamps_by : ℕ → OperatorAt → Bool
clamps_by t o = by o.operator
  where
    by : Operator → Bool
    by (Clamp k i) = k == t
    by (Shift k a b) = false

abbrev pub is_strategy : ℕ → Option (ℕ × Strategy) → Bool
is_strategy t None = false
is_strategy t (Some x) = (x.0 == t) && x.1.inserts

abbrev pub retains_by : Project → ℕ → Placed → Bool
retains_by p t a = is_strategy t (retention_winner p.intent a.path a.instance)

abbrev pub node_of_signal : Option (Node × Action) → Option Node
node_of_signal None = None
node_of_signal (Some x) = Some x.0

abbrev pub reads_of_register : Project → ℕ → Strategy → List ControlRead
reads_of_register p t x =
    control_read p t (node_of_signal x.save) (power_of p (primary_of p.intent (Some x.domain)))
    ++ (control_read p t (node_of_signal x.save) (power_of p x.supply)
    ++ (control_read p t (node_of_signal x.restore) (power_of p (primary_of p.intent (Some x.domain)))
    ++ control_read p t (node_of_signal x.restore) (power_of p x.supply)))

-- only strategies with an inserted cell are asked: save before restore, the primary supply before the retention supply
abbrev pub reads_of_strategy : Project → ℕ → Option Strategy → List ControlRead
reads_of_strategy p t None = []
reads_of_strategy p t (Some x) =
    if list_any (clamps_by t) (all_operators p) then control_read p t x.control (power_of p x.supply)
    else if list_any (retains_by p t) (registers p) then reads_of_register p t x
    else []

abbrev pub reads_of_switch : ℕ → List SwitchAt → List ControlRead
reads_of_switch o all = map (λ (x : SwitchAt). record { asks = SwitchAsks o; control = x.control; reader = Some x.input }) (filter (λ (x : SwitchAt). x.origin == o) all)

-- strategies and switches, each with the number of its command
abbrev pub all_asks : Project → (ℕ → ℕ) → List (ℕ × Asks)
all_asks p switch_command =
    map (λ t. (t.1.command, StrategyAsks t.0)) (numbered 0 p.intent.strategies)
    ++ map (λ (x : SwitchAt). (switch_command x.origin, SwitchAsks x.origin)) (all_switches p)

abbrev pub control_reads : Project → (ℕ → ℕ) → List ControlRead
control_reads p switch_command = flat_map by (in_command_order (all_asks p switch_command))
  where
    by : Asks → List ControlRead
    by (StrategyAsks t) = reads_of_strategy p t (slice_get p.intent.strategies t)
    by (SwitchAsks o) = reads_of_switch o (all_switches p)

-- the first row in which the rail of the control is lower than what reads it
abbrev pub row_of_control : Project → ControlRead → Option ℕ
row_of_control p x = row_of_lower p (power_of_rail p x.control) x.reader

-- the numbers of the commands that made the switches are given by their origins
abbrev pub control_level : Project → (ℕ → ℕ) → Line ControlRead
control_level p switch_command = record { places = control_reads p switch_command; test = λ (x : ControlRead). reads_too_low p x.control x.reader }

-- ---- F21 Loop: a node depends on itself

-- what is reached by so many reads at most
abbrev pub reached : (Key → List Key) → ℕ → List Key → List Key
reached reads zero found = found
reached reads (suc steps) found = with_more (reached reads steps found)
  where
    has : List Key → Key → Bool
    has all k = list_any (same_key k) all

    and_one : List Key → Key → List Key
    and_one all k = if has all k then all else all ++ k ∷ []

    and_all : List Key → List Key → List Key
    and_all all [] = all
    and_all all (k ∷ rest) = and_all (and_one all k) rest

    with_more : List Key → List Key
    with_more all = and_all all (flat_map reads all)

abbrev pub is_looped : Project → ℕ → Node → Bool
is_looped p steps k = list_any (same_key (At k)) (reached (reads (design_of p)) steps (reads (design_of p) (At k)))

-- the steps are the number of nodes and origins
abbrev pub loop : Project → ℕ → Line Node
loop p steps = record { places = inner_nodes p.structure; test = is_looped p steps }

-- ---- F60 NoCell: no cell fits an operator, a register or a switch

pub data Entry : Type 0 where
  OfOperator : OperatorAt → Entry
  OfRegister : Placed → Entry
  OfSwitch : SwitchAt → Entry

-- chains in port order, then registers by instance, then switches
abbrev pub entries : Project → List Entry
entries p =
    map (λ o. OfOperator o) (all_operators p)
    ++ (map (λ a. OfRegister a) (filter (λ (a : Placed). is_some (retention p.intent a.path a.instance)) (registers p))
    ++ map (λ x. OfSwitch x) (all_switches p))

abbrev pub lacks_cell : Project → Lists → Entry → Bool
lacks_cell p l (OfOperator o) = by (operator_path p o)
  where
    by : Option Path → Bool
    by None = true
    by (Some path) = not (is_some (operator_chosen p l path o.operator))
lacks_cell p l (OfRegister a) = not (is_some (register_chosen p l a))
lacks_cell p l (OfSwitch x) = not (is_some (switch_chosen p l x))

abbrev pub no_cell : Project → Lists → Line Entry
no_cell p l = record { places = entries p; test = lacks_cell p l }

-- the strategy of its line; a switch has none
abbrev pub entry_strategy : Project → Entry → Option ℕ
entry_strategy p (OfOperator o) = Some (strategy_of o.operator)
entry_strategy p (OfRegister a) = option_and_then (λ (t : ℕ × Strategy). Some t.0) (retention_winner p.intent a.path a.instance)
entry_strategy p (OfSwitch x) = None
