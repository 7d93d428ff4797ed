-- When a netlist realises a source under its power intent (own rule).
use Rattle.std.specs.Prelude.{ℕ, zero, suc, Bool, true, false, not, ◌&&◌, List, [], ◌∷◌, ◌++◌, map, filter, Option, Some, None, is_some, option_and_then, if◌then◌else◌, bytes_eq, slice_get, IsTrue}
use Rattle.std.specs.List.{list_any, list_all}
use Rattle.lp_model.specs.declared.library.Action.{Action}
use Rattle.lp_model.specs.declared.library.PinUse.{PinUse}
use Rattle.lp_model.specs.declared.library.PinUse.TheVariants.{Retain}
use Rattle.lp_model.specs.declared.library.RetClass.TheVariants.{Save, Restore, Both}
use Rattle.lp_model.specs.declared.supply.SetOrigins.{SetOrigins}
use Rattle.lp_model.specs.NetlistView.{PortView, ModuleView}
use Rattle.lp_model.specs.LibraryView.{SwitchedView, PgPinView, PinView, CellView}
use Rattle.lp_spec_design.specs.Keys.{Path, same_path, same_node, Node}
use Rattle.lp_spec_design.specs.Netlists.{Structure, cell_at, is_input}
use Rattle.lp_spec_design.specs.Instances.{module_instances, Placed, cell_instances}
use Rattle.lp_spec_design.specs.Nodes.{fuel_of}
use Rattle.lp_spec_design.specs.Graph.{numbered, Reader, top_outputs}
use Rattle.lp_spec_design.specs.Intents.{SupplySet, Origin, FromPort, FromSwitch, Strategy}
use Rattle.lp_spec_design.specs.Domains.{domain_of, primary_of, way_of, node_before, supply_of_port}
use Rattle.lp_spec_design.specs.Chains.{Operator, Clamp, Shift}
use Rattle.lp_spec_design.specs.Registers.{retention, is_retained_register}
use Rattle.lp_spec_design.specs.Settled.{node_at_pin}
use Rattle.lp_spec_pins.specs.Pins.{is_input_pin, is_data, only, input_for}
use Rattle.lp_spec_network.specs.Pairs.{pairs_of}
use Rattle.lp_spec_fit.specs.Joins.{Joins, source_joins, clamp_joins, shifter_joins, register_joins, switch_joins}
use Rattle.lp_spec_fit.specs.Fits.{fits_clamp, fits_shifter, fits_register, fits_switch, one_output, is_iso_data, is_iso_enable, is_switch_pin, retention_pins, switched_pins}
use Rattle.lp_spec_realises.specs.Projects.{Project, network_of, port_of_origin, functions_of, on_expression}
use Rattle.lp_spec_realises.specs.Tops.{top_ports, node_across}
use Rattle.lp_spec_realises.specs.ProjectNetlists.{netlist_of, has_origin, IsProjectNetlist}
use Rattle.lp_spec_realises.specs.Operators.{OperatorAt, all_operators, SwitchAt, all_switches, Placement, placed_operator, placed_switch}
use Rattle.lp_spec_realises.specs.Ends.{End, AtTop, Nowhere, same_end, wire_end, end_at_pin, output_end, switched_end, intended, some_intended}

-- ---- instances

abbrev pub same_placed : Placed → Placed → Bool
same_placed a b = bytes_eq a.instance b.instance && same_path a.path b.path

abbrev pub has_placed : List Placed → Placed → Bool
has_placed all a = list_any (same_placed a) all

abbrev pub are_distinct : List Placed → Bool
are_distinct [] = true
are_distinct (a ∷ rest) = not (has_placed rest a) && are_distinct rest

abbrev pub cell_of : Structure → Placed → Option CellView
cell_of s a = cell_at s a.path a.instance

-- a test that a cell passes, if it is there
abbrev pub passed_by : (CellView → Bool) → Option CellView → Bool
passed_by test None = false
passed_by test (Some c) = test c

-- ---- part 1: the module instances have the paths of the source's

abbrev pub has_path : List Path → Path → Bool
has_path all p = list_any (same_path p) all

abbrev pub same_paths : Structure → Structure → Bool
same_paths s w = list_all (has_path (module_instances w)) (module_instances s) && list_all (has_path (module_instances s)) (module_instances w)

-- ---- part 2: the cells are the source's, registers with retention those that fit, and one that fits for each operator and each switch

abbrev pub primary_at : Project → Path → Option SetOrigins
primary_at p path = functions_of p (primary_of p.intent (domain_of p.intent path))

abbrev pub clamp_fits : Option SetOrigins → Option SetOrigins → Option Strategy → CellView → Bool
clamp_fits (Some supply) (Some place) (Some t) c = fits_clamp (record { supply = supply; place = place; clamp = t.clamp; high = t.high; mapped = None }) c
clamp_fits _ _ _ c = false

abbrev pub shifter_fits : Project → Option SetOrigins → Option SetOrigins → CellView → Bool
shifter_fits p (Some a) (Some b) c = fits_shifter (record { input = a; output = b; pairs = pairs_of p.supplies a.power.0 b.power.0; margin = p.margin; mapped = None }) c
shifter_fits p _ _ c = false

abbrev pub operator_fits : Project → Path → Operator → CellView → Bool
operator_fits p path (Clamp t i) c = clamp_fits (functions_of p (Some i)) (primary_at p path) (slice_get p.intent.strategies t) c
operator_fits p path (Shift t a b) c = shifter_fits p (functions_of p (Some a)) (functions_of p (Some b)) c

abbrev pub switch_fits : SwitchAt → CellView → Bool
switch_fits x c = fits_switch (record { on = on_expression x.high; mapped = None }) c

abbrev pub register_fits : CellView → Option SetOrigins → Option SetOrigins → Option (Node × Action) → Option (Node × Action) → CellView → Bool
register_fits source (Some primary) (Some kept) (Some save) (Some restore) c =
    fits_register (record { source = source; primary = primary; retention = kept; save = save.1; restore = restore.1; one_signal = same_node save.0 restore.0; mapped = None }) c
register_fits source _ _ _ _ c = false

-- a register with retention, every other cell
abbrev pub takes_place : Project → Placed → Option Strategy → Option CellView → CellView → Bool
takes_place p a t None c = false
takes_place p a None (Some source) c = bytes_eq source.name c.name
takes_place p a (Some t) (Some source) c = if is_some source.state then register_fits source (primary_at p a.path) (functions_of p t.supply) t.save t.restore c else bytes_eq source.name c.name

abbrev pub source_cell_stands : Project → Structure → Placed → Bool
source_cell_stands p w a = passed_by (takes_place p a (retention p.intent a.path a.instance) (cell_of p.structure a)) (cell_of w a)

abbrev pub operator_stands : Project → Structure → Placement → OperatorAt → Bool
operator_stands p w at o = passed_by (operator_fits p (placed_operator at o).path o.operator) (cell_of w (placed_operator at o))

abbrev pub switch_stands : Structure → Placement → SwitchAt → Bool
switch_stands w at x = passed_by (switch_fits x) (cell_of w (placed_switch at x))

-- the source's cell instances, and those of the operators and the switches
abbrev pub added : Project → Placement → List Placed
added p at = map (placed_operator at) (all_operators p) ++ map (placed_switch at) (all_switches p)

abbrev pub expected_cells : Project → Placement → List Placed
expected_cells p at = cell_instances p.structure ++ added p at

abbrev pub has_the_cells : Project → Structure → Placement → Bool
has_the_cells p w at =
    list_all (source_cell_stands p w) (cell_instances p.structure)
    && (list_all (operator_stands p w at) (all_operators p)
    && (list_all (switch_stands w at) (all_switches p)
    && (are_distinct (expected_cells p at)
    && list_all (has_placed (expected_cells p at)) (cell_instances w))))

-- ---- part 3: each input pin of the source and each top output begins where it has to, and the cells of a chain follow one another

abbrev pub input_begins : Project → Structure → Placement → ℕ → Placed → PinView → Bool
input_begins p w at fuel a q = same_end (end_at_pin w fuel a.path a.instance q.name) (some_intended p w at (node_at_pin p.structure a.path a.instance q.name))

abbrev pub inputs_begin : Project → Structure → Placement → ℕ → Placed → Bool
inputs_begin p w at fuel a = passed_by (λ c. list_all (input_begins p w at fuel a) (filter is_input_pin c.pins)) (cell_of p.structure a)

abbrev pub output_begins : Project → Structure → Placement → ℕ → Reader × Node → Bool
output_begins p w at fuel r = same_end (wire_end w fuel (node_across p.structure w r.1)) (intended p w at r.1)

-- the pin of an operator's cell that takes the data
abbrev pub data_pin : Operator → CellView → Option PinView
data_pin (Clamp t i) c = input_for is_iso_data c
data_pin (Shift t a b) c = input_for is_data c

abbrev pub end_of_pin : Structure → ℕ → Placed → Option PinView → End
end_of_pin w fuel a None = Nowhere
end_of_pin w fuel a (Some q) = end_at_pin w fuel a.path a.instance q.name

-- the first cell takes what comes to the way, each other one what the cell before it gives
abbrev pub data_intended : Project → Structure → Placement → OperatorAt → End
data_intended p w at o = by o.number
  where
    by : ℕ → End
    by zero = intended p w at (node_before p.structure o.bit)
    by (suc k) = output_end w (at.operator (way_of o.bit) k)

abbrev pub chain_follows : Project → Structure → Placement → ℕ → OperatorAt → Bool
chain_follows p w at fuel o = same_end (end_of_pin w fuel (placed_operator at o) (option_and_then (data_pin o.operator) (cell_of w (placed_operator at o)))) (data_intended p w at o)

abbrev pub begins_right : Project → Structure → Placement → ℕ → Bool
begins_right p w at fuel =
    list_all (inputs_begin p w at fuel) (cell_instances p.structure)
    && (list_all (output_begins p w at fuel) (top_outputs p.structure)
    && list_all (chain_follows p w at fuel) (all_operators p))

-- ---- part 4: each enable, save, restore and switch pin begins where its control does

abbrev pub control_begins : Project → Structure → Placement → ℕ → Placed → Option Node → Option PinView → Bool
control_begins p w at fuel a (Some k) (Some q) = same_end (end_at_pin w fuel a.path a.instance q.name) (intended p w at k)
control_begins p w at fuel a _ _ = false

abbrev pub enable_begins : Project → Structure → Placement → ℕ → OperatorAt → Bool
enable_begins p w at fuel o = by o.operator
  where
    by : Operator → Bool
    by (Shift t a b) = true
    by (Clamp t i) = control_begins p w at fuel (placed_operator at o) (option_and_then (λ (x : Strategy). x.control) (slice_get p.intent.strategies t)) (option_and_then (input_for is_iso_enable) (cell_of w (placed_operator at o)))

abbrev pub switch_pin_begins : Project → Structure → Placement → ℕ → SwitchAt → Bool
switch_pin_begins p w at fuel x = control_begins p w at fuel (placed_switch at x) (Some x.control) (option_and_then (input_for is_switch_pin) (cell_of w (placed_switch at x)))

-- the control of a retention pin; a pin that saves and restores has one net bit for both
abbrev pub control_of : Strategy → PinUse → Option Node
control_of t (Retain Save save restore) = option_and_then (λ x. Some x.0) t.save
control_of t (Retain Restore save restore) = option_and_then (λ x. Some x.0) t.restore
control_of t (Retain Both save restore) = option_and_then (λ x. Some x.0) t.save
control_of t _ = None

abbrev pub retention_pins_begin : Project → Structure → Placement → ℕ → Placed → Option Strategy → Option CellView → Bool
retention_pins_begin p w at fuel a (Some t) (Some c) = list_all (λ (q : PinView). control_begins p w at fuel a (control_of t q.use_of) (Some q)) (retention_pins c)
retention_pins_begin p w at fuel a _ _ = true

-- a strategy of retention has to do with registers alone
abbrev pub retention_begins : Project → Structure → Placement → ℕ → Placed → Bool
retention_begins p w at fuel a =
    if is_retained_register p.structure p.intent a.path a.instance then retention_pins_begin p w at fuel a (retention p.intent a.path a.instance) (cell_of w a) else true

abbrev pub controls_begin : Project → Structure → Placement → ℕ → Bool
controls_begin p w at fuel =
    list_all (enable_begins p w at fuel) (all_operators p)
    && (list_all (switch_pin_begins p w at fuel) (all_switches p)
    && list_all (retention_begins p w at fuel) (cell_instances p.structure))

-- ---- part 5: each power and ground pin begins at the origin to which its cell is joined

abbrev pub origin_end : Project → Structure → Placement → ℕ → End
origin_end p w at o = by (slice_get (network_of p).origins o)
  where
    by : Option Origin → End
    by None = Nowhere
    by (Some FromPort) = AtTop (port_of_origin p o) None
    by (Some (FromSwitch input control high)) = switched_end w (at.switch o)

abbrev pub joined_end : Project → Structure → Placement → Option ℕ → End
joined_end p w at None = Nowhere
joined_end p w at (Some o) = origin_end p w at o

-- a pin without a supply is none
abbrev pub pg_begins : Project → Structure → Placement → ℕ → Placed → Joins → ℕ × PgPinView → Bool
pg_begins p w at fuel a join g = is_some (join g.0 g.1) && same_end (end_at_pin w fuel a.path a.instance g.1.name) (joined_end p w at (join g.0 g.1))

abbrev pub cell_joined : Project → Structure → Placement → ℕ → Placed → (CellView → Option Joins) → Option CellView → Bool
cell_joined p w at fuel a joins None = false
cell_joined p w at fuel a joins (Some c) = by (joins c)
  where
    by : Option Joins → Bool
    by None = false
    by (Some join) = list_all (pg_begins p w at fuel a join) (numbered 0 c.pgs)

abbrev pub plain_joins : Option SetOrigins → Option Joins
plain_joins primary = option_and_then (λ s. Some (source_joins s)) primary

abbrev pub kept_joins : Option SetOrigins → Option SetOrigins → Option Joins
kept_joins primary held = option_and_then (λ s. option_and_then (λ r. Some (register_joins s r)) held) primary

-- a register with retention has a supply for its copy too
abbrev pub joins_by : Project → Option SetOrigins → Option Strategy → Bool → Option Joins
joins_by p primary None is_register = plain_joins primary
joins_by p primary (Some t) is_register = if is_register then kept_joins primary (functions_of p t.supply) else plain_joins primary

abbrev pub joins_of_source : Project → Placed → CellView → Option Joins
joins_of_source p a c = joins_by p (primary_at p a.path) (retention p.intent a.path a.instance) (is_some c.state)

abbrev pub clamp_joins_of : Option SetOrigins → Option SetOrigins → CellView → Option Joins
clamp_joins_of (Some supply) (Some place) c = Some (clamp_joins supply place c)
clamp_joins_of _ _ c = None

abbrev pub shifter_joins_of : Option SetOrigins → Option SetOrigins → Option PinView → Option PinView → Option Joins
shifter_joins_of (Some a) (Some b) (Some d) (Some y) = Some (shifter_joins a b d y)
shifter_joins_of _ _ _ _ = None

abbrev pub joins_of_operator : Project → Path → Operator → CellView → Option Joins
joins_of_operator p path (Clamp t i) c = clamp_joins_of (functions_of p (Some i)) (primary_at p path) c
joins_of_operator p path (Shift t a b) c = shifter_joins_of (functions_of p (Some a)) (functions_of p (Some b)) (input_for is_data c) (one_output c)

-- all used sets have one ground, that of the top's domain
abbrev pub joins_of_switch : Project → SwitchAt → CellView → Option Joins
joins_of_switch p x c = by (primary_at p []) (only (switched_pins c))
  where
    by : Option SetOrigins → Option SwitchedView → Option Joins
    by (Some s) (Some g) = Some (switch_joins x.input x.origin s.gnd.0 g.passes)
    by _ _ = None

abbrev pub source_joined : Project → Structure → Placement → ℕ → Placed → Bool
source_joined p w at fuel a = cell_joined p w at fuel a (joins_of_source p a) (cell_of w a)

abbrev pub operator_joined : Project → Structure → Placement → ℕ → OperatorAt → Bool
operator_joined p w at fuel o = cell_joined p w at fuel (placed_operator at o) (joins_of_operator p (placed_operator at o).path o.operator) (cell_of w (placed_operator at o))

abbrev pub switch_joined : Project → Structure → Placement → ℕ → SwitchAt → Bool
switch_joined p w at fuel x = cell_joined p w at fuel (placed_switch at x) (joins_of_switch p x) (cell_of w (placed_switch at x))

-- the supply of the environment's side of a port of the top
abbrev pub outer_supply : Project → PortView → Option SupplySet
outer_supply p port = option_and_then (λ k. slice_get (network_of p).sets k) (supply_of_port (if is_input port then p.intent.drivers else p.intent.receivers) port.name (primary_of p.intent (domain_of p.intent [])))

-- where the origin is a port, the top has it
abbrev pub has_origin_port : Project → Structure → ℕ → Bool
has_origin_port p w o = by (slice_get (network_of p).origins o)
  where
    by : Option Origin → Bool
    by None = false
    by (Some FromPort) = has_origin p w o
    by (Some (FromSwitch input control high)) = true

abbrev pub has_outer_ports : Project → Structure → Option SupplySet → Bool
has_outer_ports p w None = false
has_outer_ports p w (Some s) = has_origin_port p w s.power && has_origin_port p w s.gnd

abbrev pub supplies_begin : Project → Structure → Placement → ℕ → Bool
supplies_begin p w at fuel =
    list_all (source_joined p w at fuel) (cell_instances p.structure)
    && (list_all (operator_joined p w at fuel) (all_operators p)
    && (list_all (switch_joined p w at fuel) (all_switches p)
    && list_all (λ port. has_outer_ports p w (outer_supply p port)) (top_ports p.structure)))

-- ---- the whole

-- a netlist of the project, for some cell instances that stand for the operators and the switches
pub record Realises (p : Project) (modules : List ModuleView) : Type 0 where
  pub netlist : IsProjectNetlist p modules
  pub placement : Placement
  pub instances : IsTrue (same_paths p.structure (netlist_of p modules))
  pub cells : IsTrue (has_the_cells p (netlist_of p modules) placement)
  pub wires : IsTrue (begins_right p (netlist_of p modules) placement (fuel_of (netlist_of p modules)))
  pub controls : IsTrue (controls_begin p (netlist_of p modules) placement (fuel_of (netlist_of p modules)))
  pub supplies : IsTrue (supplies_begin p (netlist_of p modules) placement (fuel_of (netlist_of p modules)))
