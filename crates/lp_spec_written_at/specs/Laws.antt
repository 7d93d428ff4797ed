-- The statements of the laws of this crate (own rule).
use Rattle.std.specs.Prelude.{codes, ◌≡◌, ◌≤◌, ℕ, slice_get, length, true, false, List, [], map, flat_map, Some, None, is_some, IsTrue}
use Rattle.std.specs.List.{list_any, list_all}
use Rattle.lp_spec_design.specs.Netlists.{Structure, module_named, module_at}
use Rattle.lp_spec_realises.specs.Projects.{Project}
use Rattle.lp_spec_realises.specs.ProjectNetlists.{are_apart, netlist_of, has_single_source, knows_its_targets, names_in, has_names_apart, declares_its_bits, is_shallow, port_origins, has_origins_apart, has_origin, IsProjectNetlist}
use Rattle.lp_spec_realises.specs.Controls.{control_node}
use Rattle.lp_spec_realises.specs.Tops.{top_ports, has_port}
use Rattle.lp_spec_realises.specs.Implements.{Lists, operator_as_chosen, switch_as_chosen, register_as_chosen, switch_chosen, as_chosen}
use Rattle.lp_spec_realises.specs.Operators.{OperatorAt, SwitchAt, all_operators, all_switches, placed_operator, placed_switch}
use Rattle.lp_spec_design.specs.Graph.{numbered, pin_node}
use Rattle.lp_spec_design.specs.Settled.{node_at_pin}
use Rattle.lp_spec_faults.specs.Lines.{first_of}
use Rattle.lp_spec_faults.specs.Readings.{no_cell}
use Rattle.lp_spec_faults.specs.Modules.{names_of, is_reserved, all_instances, unfit_cell}
use Rattle.lp_spec_fit.specs.Fits.{retention_pins}
use Rattle.lp_spec_realises.specs.Realises.{control_of, has_the_cells, same_paths, cell_of, operator_stands, switch_stands, source_cell_stands, has_placed, expected_cells, are_distinct}
use Rattle.lp_spec_written.specs.Places.{Standing, Kept, Switching, plan, switches_in, cell_numbered, with_number}
use Rattle.lp_spec_written.specs.Supplies.{cell_for, switch_of, source_pins, kept_at, origin_bits}
use Rattle.lp_spec_written.specs.Routes.{some_control_bits}
use Rattle.lp_spec_design.specs.Instances.{Placed, module_instances, cell_instances}
use Rattle.lp_spec_design.specs.Nodes.{nodes_of, has_wire_loop, DeclaresBits}
use Rattle.lp_spec_design.specs.Keys.{Name, Path, Node, Way}
use Rattle.lp_spec_design.specs.Winners.{IsIn}
use Rattle.lp_spec_written.specs.Nets.{Linked, stretches, linked}
use Rattle.lp_model.specs.NetlistView.{ConnectionView, ConnectionsView, InstanceView, ModuleView}
use Rattle.lp_model.specs.LibraryView.{PinView, CellView}
use Rattle.lp_spec_written.specs.Written.{Additions, additions, named_operators, written_operator, written_switch, written_instances, written_module, written}
use Rattle.lp_spec_hub.specs.Spots.{on_way}
use Rattle.lp_spec_hub.specs.Entries.{HasWaysApart, HasItsCells}
use Rattle.lp_spec_wired.specs.Contents.{IsWrittenAt}
use Rattle.lp_spec_wired.specs.Laws.{HasSupplyNames}
use Rattle.lp_spec_wired.specs.Names.{name_of_node, placement_of}
use Rattle.lp_spec_written_at.specs.Sources.{takes_own_name, has_own_target, IsFree, IsReached, HasSwitchCells, HasRegisterCells, HasOriginNames, HasFewAdditions, IsNetBit, HasControls, node_of_bits, connections_of, cell_names, HasFreePins}

-- the netlist that is written has at each path the written module of that path
abbrev pub WrittenAtItsPaths : Type 0
WrittenAtItsPaths = (p : Project) (l : Lists) → IsFree p → IsWrittenAt p (additions p l) (netlist_of p (written p l))

-- a netlist of that content has the module instances of the source
abbrev pub HasItsInstances : Type 0
HasItsInstances = (p : Project) (a : Additions) (w : Structure) → IsFree p → IsWrittenAt p a w → IsTrue (same_paths p.structure w)

-- it is no deeper than 64, and its top has the ports of the source and those of the origins
abbrev pub IsShallow : Type 0
IsShallow = (p : Project) (a : Additions) (w : Structure) → IsFree p → IsWrittenAt p a w → IsTrue (is_shallow w)

abbrev pub HasItsPorts : Type 0
HasItsPorts = (p : Project) (a : Additions) (w : Structure) → IsFree p → IsWrittenAt p a w → IsTrue (list_all (has_port w) (top_ports p.structure))

abbrev pub HasItsOrigins : Type 0
HasItsOrigins =
    (p : Project) (a : Additions) (w : Structure)
    → IsFree p
    → IsWrittenAt p a w
    → is_some (module_at p.structure []) ≡ true
    → IsTrue (list_all (has_origin p w) (port_origins p))

-- each target of it is a module or a cell, where each of its modules is that of an instance
abbrev pub KnowsTargets : Type 0
KnowsTargets = (p : Project) (l : Lists) (w : Structure) → IsFree p → IsWrittenAt p (additions p l) w → IsReached w → IsTrue (knows_its_targets w)

-- each module that is written is that of an instance
abbrev pub WrittenAreReached : Type 0
WrittenAreReached = (p : Project) (l : Lists) → IsFree p → IsReached (netlist_of p (written p l))

-- each cell instance of the source is there: a register with retention has the chosen cell, every other one its own
abbrev pub HasSourceCells : Type 0
HasSourceCells =
    (p : Project) (l : Lists) (w : Structure)
    → IsFree p
    → are_apart (map (λ (k : CellView). k.name) p.structure.cells) ≡ true
    → IsWrittenAt p (additions p l) w
    → (place : Placed) (c : CellView)
    → cell_of p.structure place ≡ Some c
    → cell_of w place ≡ cell_for p (plan p l) place

-- each operator has the instance of its name, of the cell that was chosen for it
abbrev pub HasOperatorCells : Type 0
HasOperatorCells =
    (p : Project) (l : Lists) (w : Structure)
    → IsFree p
    → are_apart (map (λ (k : CellView). k.name) p.structure.cells) ≡ true
    → IsWrittenAt p (additions p l) w
    → (x : Path) (m : ModuleView)
    → module_at p.structure x ≡ Some m
    → length (linked p (additions p l).chains x) ≤ 1000000000
    → (y : Name × Linked)
    → IsIn y (named_operators (linked p (additions p l).chains x))
    → cell_of w (record { path = x; instance = y.0 }) ≡ Some y.1.0.cell

-- the placement that goes with it has each operator of the plan in the instance where it stands, of the cell that was chosen for it
abbrev pub PlacesOperators : Type 0
PlacesOperators =
    (p : Project) (l : Lists) (w : Structure)
    → IsFree p
    → are_apart (map (λ (k : CellView). k.name) p.structure.cells) ≡ true
    → HasWaysApart p
    → IsWrittenAt p (additions p l) w
    → ((x : Path) → length (linked p (additions p l).chains x) ≤ 1000000000)
    → (way : Way) (k : ℕ) (o : Standing)
    → slice_get (on_way (plan p l).operators way) k ≡ Some o
    → (((placement_of p l).operator way k).path ≡ o.path) × (cell_of w ((placement_of p l).operator way k) ≡ Some o.cell)

-- and each switch in its scope
abbrev pub PlacesSwitches : Type 0
PlacesSwitches =
    (p : Project) (l : Lists) (w : Structure)
    → IsFree p
    → are_apart (map (λ (k : CellView). k.name) p.structure.cells) ≡ true
    → IsWrittenAt p (additions p l) w
    → (o : ℕ) (k : Switching)
    → switch_of (plan p l) o ≡ Some k
    → (m : ModuleView)
    → module_at p.structure k.path ≡ Some m
    → length (switches_in (plan p l) k.path) ≤ 1000000000
    → (((placement_of p l).switch o).path ≡ k.path) × (cell_of w ((placement_of p l).switch o) ≡ Some k.cell)

-- so each operator stands by a cell that fits, the chosen one, in its place
abbrev pub OperatorsStand : Type 0
OperatorsStand =
    (p : Project) (l : Lists) (w : Structure)
    → IsFree p
    → are_apart (map (λ (k : CellView). k.name) p.structure.cells) ≡ true
    → HasWaysApart p
    → HasItsCells p l
    → IsWrittenAt p (additions p l) w
    → ((x : Path) → length (linked p (additions p l).chains x) ≤ 1000000000)
    → (list_all (operator_stands p w (placement_of p l)) (all_operators p) ≡ true)
    × (list_all (operator_as_chosen p w l (placement_of p l)) (all_operators p) ≡ true)

-- and so does each switch
abbrev pub SwitchesStand : Type 0
SwitchesStand =
    (p : Project) (l : Lists) (w : Structure)
    → IsFree p
    → are_apart (map (λ (k : CellView). k.name) p.structure.cells) ≡ true
    → HasSwitchCells p l
    → IsWrittenAt p (additions p l) w
    → ((x : Path) → length (switches_in (plan p l) x) ≤ 1000000000)
    → (list_all (switch_stands w (placement_of p l)) (all_switches p) ≡ true)
    × (list_all (switch_as_chosen p w l (placement_of p l)) (all_switches p) ≡ true)

-- each cell instance of the source stands, a register with retention by a cell that fits, the chosen one, every other one by its own
abbrev pub SourceCellsStand : Type 0
SourceCellsStand =
    (p : Project) (l : Lists) (w : Structure)
    → IsFree p
    → are_apart (map (λ (k : CellView). k.name) p.structure.cells) ≡ true
    → HasRegisterCells p l
    → IsWrittenAt p (additions p l) w
    → (list_all (source_cell_stands p w) (cell_instances p.structure) ≡ true)
    × (list_all (register_as_chosen p w l) (cell_instances p.structure) ≡ true)

-- together: all cells that are added, and those of registers with retention, are the chosen ones in their places
abbrev pub IsAsChosen : Type 0
IsAsChosen =
    (p : Project) (l : Lists) (w : Structure)
    → IsFree p
    → are_apart (map (λ (k : CellView). k.name) p.structure.cells) ≡ true
    → HasWaysApart p
    → HasItsCells p l
    → HasRegisterCells p l
    → HasSwitchCells p l
    → IsWrittenAt p (additions p l) w
    → ((x : Path) → length (linked p (additions p l).chains x) ≤ 1000000000)
    → ((x : Path) → length (switches_in (plan p l) x) ≤ 1000000000)
    → IsTrue (as_chosen p w l (placement_of p l))

-- where no operator, register or switch lacks a cell, registers with retention and switches have the chosen ones
abbrev pub NoneLacks : Type 0
NoneLacks =
    (p : Project) (l : Lists)
    → first_of (no_cell p l) ≡ None
    → HasRegisterCells p l × ((x : SwitchAt) → IsIn x (all_switches p) → is_some (cell_numbered p (switch_chosen p l x)) ≡ true)

-- and back: each operator that is written in an instance is the one that the placement has there for some operator
abbrev pub OperatorsComeFromPlan : Type 0
OperatorsComeFromPlan =
    (p : Project) (l : Lists)
    → IsFree p
    → HasWaysApart p
    → HasItsCells p l
    → (x : Path) (m : ModuleView)
    → module_at p.structure x ≡ Some m
    → (y : Name × Linked)
    → IsIn y (named_operators (linked p (additions p l).chains x))
    → (o : OperatorAt) × IsIn o (all_operators p) × (placed_operator (placement_of p l) o ≡ record { path = x; instance = y.0 })

-- and so is each switch
abbrev pub SwitchesComeFromPlan : Type 0
SwitchesComeFromPlan =
    (p : Project) (l : Lists) (x : Path) (y : ℕ × Switching)
    → IsIn y (numbered 0 (switches_in (plan p l) x))
    → (o : SwitchAt) × IsIn o (all_switches p) × (placed_switch (placement_of p l) o ≡ record { path = x; instance = with_number (codes "lp_s_") y.0 })

-- so there are no other cell instances than those of the source, the operators and the switches
abbrev pub HasNoOtherCells : Type 0
HasNoOtherCells =
    (p : Project) (l : Lists) (w : Structure)
    → IsFree p
    → HasWaysApart p
    → HasItsCells p l
    → IsWrittenAt p (additions p l) w
    → list_all (has_placed (expected_cells p (placement_of p l))) (cell_instances w) ≡ true

-- no cell instance of the source stands twice
abbrev pub SourceCellsDiffer : Type 0
SourceCellsDiffer = (p : Project) → IsFree p → are_distinct (cell_instances p.structure) ≡ true

-- no two operators stand at one cell instance
abbrev pub OperatorsDiffer : Type 0
OperatorsDiffer =
    (p : Project) (l : Lists)
    → IsFree p
    → HasWaysApart p
    → HasItsCells p l
    → ((x : Path) → length (linked p (additions p l).chains x) ≤ 1000000000)
    → are_distinct (map (placed_operator (placement_of p l)) (all_operators p)) ≡ true

-- no two switches stand at one cell instance
abbrev pub SwitchesDiffer : Type 0
SwitchesDiffer =
    (p : Project) (l : Lists)
    → HasSwitchCells p l
    → ((x : Path) → length (switches_in (plan p l) x) ≤ 1000000000)
    → are_distinct (map (placed_switch (placement_of p l)) (all_switches p)) ≡ true

-- so no two cell instances of the source, of operators and of switches are one
abbrev pub ExpectedCellsDiffer : Type 0
ExpectedCellsDiffer =
    (p : Project) (l : Lists)
    → IsFree p
    → HasWaysApart p
    → HasItsCells p l
    → HasSwitchCells p l
    → ((x : Path) → length (linked p (additions p l).chains x) ≤ 1000000000)
    → ((x : Path) → length (switches_in (plan p l) x) ≤ 1000000000)
    → are_distinct (expected_cells p (placement_of p l)) ≡ true

-- so a netlist of that content has the cells that the project asks for, each once, and no others
abbrev pub HasAllItsCells : Type 0
HasAllItsCells =
    (p : Project) (l : Lists)
    → IsFree p
    → HasWaysApart p
    → HasItsCells p l
    → HasSwitchCells p l
    → ((x : Path) → length (linked p (additions p l).chains x) ≤ 1000000000)
    → ((x : Path) → length (switches_in (plan p l) x) ≤ 1000000000)
    → (w : Structure)
    → are_apart (map (λ (k : CellView). k.name) p.structure.cells) ≡ true
    → HasRegisterCells p l
    → IsWrittenAt p (additions p l) w
    → has_the_cells p w (placement_of p l) ≡ true

-- no two modules that are written have one name
abbrev pub ModuleNamesDiffer : Type 0
ModuleNamesDiffer = (p : Project) (l : Lists) → IsFree p → are_apart (map (λ (m : ModuleView). m.name) (written p l)) ≡ true

-- no two instances in a module that is written have one name
abbrev pub InstanceNamesDiffer : Type 0
InstanceNamesDiffer =
    (p : Project) (l : Lists)
    → IsFree p
    → (x : Path) (m : ModuleView)
    → module_at p.structure x ≡ Some m
    → length (linked p (additions p l).chains x) ≤ 1000000000
    → length (switches_in (plan p l) x) ≤ 1000000000
    → are_apart (map (λ (y : InstanceView). y.name) (written_instances p (additions p l) x m)) ≡ true

-- where no instance is of an unfit cell (F61), the names of cells that are instantiated are free: modules do not begin as the added ones, and cells that can be used do not
abbrev pub TargetsAreFree : Type 0
TargetsAreFree =
    (s : Structure)
    → list_any (is_reserved s) (flat_map names_of s.modules) ≡ false
    → list_any takes_own_name s.cells ≡ false
    → knows_its_targets s ≡ true
    → first_of (unfit_cell s) ≡ None
    → list_any has_own_target (all_instances s) ≡ false

-- supply ports have names of their own, and switches have numbers of their own
abbrev pub SupplyNamesDiffer : Type 0
SupplyNamesDiffer = (p : Project) (l : Lists) → HasOriginNames p → HasFewAdditions p l → HasSupplyNames p (additions p l)

-- the names of supply ports are apart, and none is that of a port of the source
abbrev pub OriginsAreApart : Type 0
OriginsAreApart = (p : Project) → IsFree p → HasOriginNames p → IsTrue (has_origins_apart p)

-- the ports, nets and instances of a module that is written have names apart, all together
abbrev pub PartNamesDiffer : Type 0
PartNamesDiffer =
    (p : Project) (l : Lists)
    → IsFree p
    → HasOriginNames p
    → HasFewAdditions p l
    → (x : Path) (m : ModuleView)
    → module_at p.structure x ≡ Some m
    → are_apart (names_in (written_module p (additions p l) x m)) ≡ true

-- so no name stands twice in the written netlist
abbrev pub WrittenNamesDiffer : Type 0
WrittenNamesDiffer = (p : Project) (l : Lists) → IsFree p → HasOriginNames p → HasFewAdditions p l → IsTrue (has_names_apart (written p l))

-- each bit that a module of that content joins is declared there
abbrev pub DeclaresItsBits : Type 0
DeclaresItsBits =
    (p : Project) (l : Lists) (w : Structure)
    → IsFree p
    → DeclaresBits p.structure
    → HasControls p
    → IsWrittenAt p (additions p l) w
    → DeclaresBits w

-- which is the test of project netlists
abbrev pub DeclaresByTest : Type 0
DeclaresByTest =
    (w : Structure)
    → DeclaresBits w
    → IsTrue (list_all (λ path. declares_its_bits path (module_at w path)) (module_instances w))

-- the source is ready: it has a top, it declares its bits and the controls, its names are free, supply ports have names, and what is added is not too much
pub record IsReady (p : Project) (l : Lists) : Type 0 where
  pub free : IsFree p
  pub top : is_some (module_at p.structure []) ≡ true
  pub bits : DeclaresBits p.structure
  pub controls : HasControls p
  pub names : HasOriginNames p
  pub few : HasFewAdditions p l

-- no net bit of a netlist is driven twice, and no wire comes back to itself
pub record IsDrivenOnce (w : Structure) : Type 0 where
  pub one_source : IsTrue (list_all (has_single_source w) (nodes_of w))
  pub no_loop : has_wire_loop w ≡ false

-- modules of the written content whose names are apart, and each of which is that of an instance, are a netlist of the project, where no net bit is driven twice and no wire comes back to itself
abbrev pub ContentIsProjectNetlist : Type 0
ContentIsProjectNetlist =
    (p : Project) (l : Lists) (modules : List ModuleView)
    → IsReady p l
    → IsWrittenAt p (additions p l) (netlist_of p modules)
    → IsReached (netlist_of p modules)
    → IsTrue (has_names_apart modules)
    → IsDrivenOnce (netlist_of p modules)
    → IsProjectNetlist p modules

-- so the written netlist is one
abbrev pub WrittenIsProjectNetlist : Type 0
WrittenIsProjectNetlist = (p : Project) (l : Lists) → IsReady p l → IsDrivenOnce (netlist_of p (written p l)) → IsProjectNetlist p (written p l)

-- ---- pins

-- a pin of an instance of that content is connected as it is written
abbrev pub PinsAreWritten : Type 0
PinsAreWritten =
    (p : Project) (l : Lists) (w : Structure)
    → IsFree p
    → HasFewAdditions p l
    → IsWrittenAt p (additions p l) w
    → (x : Path) (m : ModuleView)
    → module_at p.structure x ≡ Some m
    → (y : InstanceView)
    → IsIn y (written_instances p (additions p l) x m)
    → (q : Name)
    → node_at_pin w x y.name q ≡ pin_node x q y.connections

-- where no two connections have one name, each gives its pin its first bit
abbrev pub ConnectionsAreRead : Type 0
ConnectionsAreRead =
    (x : Path) (cs : ConnectionsView)
    → are_apart (map (λ (c : ConnectionView). c.port) (connections_of cs)) ≡ true
    → (c : ConnectionView)
    → IsIn c (connections_of cs)
    → pin_node x c.port cs ≡ node_of_bits x c.bits

-- so each connection of an operator, whose cell has no two pins of one name, gives its pin its first bit
abbrev pub OperatorPinsAreRead : Type 0
OperatorPinsAreRead =
    (p : Project) (l : Lists) (w : Structure)
    → IsFree p
    → HasFewAdditions p l
    → IsWrittenAt p (additions p l) w
    → (x : Path) (m : ModuleView)
    → module_at p.structure x ≡ Some m
    → (y : Name × Linked)
    → IsIn y (named_operators (linked p (additions p l).chains x))
    → are_apart (cell_names y.1.0.cell) ≡ true
    → (c : ConnectionView)
    → IsIn c (connections_of (written_operator p (additions p l) x y).connections)
    → node_at_pin w x y.0 c.port ≡ node_of_bits x c.bits

-- and each connection of a switch
abbrev pub SwitchPinsAreRead : Type 0
SwitchPinsAreRead =
    (p : Project) (l : Lists) (w : Structure)
    → IsFree p
    → HasFewAdditions p l
    → IsWrittenAt p (additions p l) w
    → (x : Path) (m : ModuleView)
    → module_at p.structure x ≡ Some m
    → (y : ℕ × Switching)
    → IsIn y (numbered 0 (switches_in (plan p l) x))
    → are_apart (cell_names y.1.cell) ≡ true
    → (c : ConnectionView)
    → IsIn c (connections_of (written_switch p (additions p l) x y).connections)
    → node_at_pin w x (with_number (codes "lp_s_") y.0) c.port ≡ node_of_bits x c.bits

-- a pin of a cell instance of the source that is connected stays connected to the net bit, by the name that it has there
abbrev pub SourcePinsAreKept : Type 0
SourcePinsAreKept =
    (p : Project) (l : Lists) (w : Structure)
    → IsFree p
    → HasFewAdditions p l
    → IsWrittenAt p (additions p l) w
    → (x : Path) (m : ModuleView)
    → module_at p.structure x ≡ Some m
    → (y : InstanceView)
    → IsIn y m.instances
    → module_named p.structure y.target ≡ None
    → (q : Name) (k : Node)
    → node_at_pin p.structure x y.name q ≡ Some k
    → node_at_pin w x y.name q ≡ Some (name_of_node (stretches p (plan p l)) k)

-- each power and ground pin of a cell instance of the source is connected to the net of the origin to which it is joined
abbrev pub SourceSuppliesAreRead : Type 0
SourceSuppliesAreRead =
    (p : Project) (l : Lists) (w : Structure)
    → IsFree p
    → HasFewAdditions p l
    → IsWrittenAt p (additions p l) w
    → (x : Path) (m : ModuleView)
    → module_at p.structure x ≡ Some m
    → (y : InstanceView)
    → IsIn y m.instances
    → module_named p.structure y.target ≡ None
    → (c : CellView)
    → HasFreePins p l x y c
    → (q : Name × ℕ)
    → IsIn q (source_pins p (plan p l) (record { path = x; instance = y.name }))
    → node_at_pin w x y.name q.0 ≡ node_of_bits x (origin_bits p (plan p l) q.1)

-- and each retention pin of a register with retention to the net of its control
abbrev pub RetentionPinsAreRead : Type 0
RetentionPinsAreRead =
    (p : Project) (l : Lists) (w : Structure)
    → IsFree p
    → HasFewAdditions p l
    → IsWrittenAt p (additions p l) w
    → (x : Path) (m : ModuleView)
    → module_at p.structure x ≡ Some m
    → (y : InstanceView)
    → IsIn y m.instances
    → module_named p.structure y.target ≡ None
    → (c : CellView)
    → HasFreePins p l x y c
    → (k : Kept)
    → kept_at (plan p l) (record { path = x; instance = y.name }) ≡ Some k
    → (q : PinView)
    → IsIn q (retention_pins c)
    → node_at_pin w x y.name q.name ≡ node_of_bits x (some_control_bits (additions p l).chains (additions p l).controls x (control_of k.strategy q.use_of))

-- ---- controls

-- what a control name gives is a net bit that its instance declares
abbrev pub ControlNamesAreNetBits : Type 0
ControlNamesAreNetBits = (s : Structure) (x : Path) (text : Name) (k : Node) → control_node s x text ≡ Some k → IsNetBit s k

-- and so is the control of each switch, or a constant
abbrev pub SwitchControlsAreNetBits : Type 0
SwitchControlsAreNetBits = (p : Project) (x : SwitchAt) → IsIn x (all_switches p) → IsNetBit p.structure x.control
