-- Which cells an insertion takes, and where it puts them (own rule, after IEEE 1801-2015 -location, use_interface_cell, map_retention_cell and map_power_switch).
use Rattle.std.specs.Prelude.{ℕ, Bool, true, false, ◌&&◌, List, [], ◌∷◌, ◌++◌, map, Option, Some, None, is_some, if◌then◌else◌, option_and_then, bytes_eq, slice_get}
use Rattle.std.specs.List.{list_all}
use Rattle.lp_model.specs.declared.library.Action.{Action}
use Rattle.lp_model.specs.declared.side.Location.{Location}
use Rattle.lp_model.specs.declared.side.Location.TheVariants.{Own}
use Rattle.lp_model.specs.declared.side.Side.{Side}
use Rattle.lp_model.specs.declared.side.Side.TheVariants.{Upper, Lower}
use Rattle.lp_model.specs.declared.supply.SetOrigins.{SetOrigins}
use Rattle.lp_model.specs.LibraryView.{CellView}
use Rattle.lp_spec_design.specs.Keys.{Path, same_path, Node, same_node}
use Rattle.lp_spec_design.specs.Netlists.{Structure, is_input}
use Rattle.lp_spec_design.specs.Instances.{Placed, cell_instances}
use Rattle.lp_spec_design.specs.Nodes.{fuel_of}
use Rattle.lp_spec_design.specs.Intents.{Strategy}
use Rattle.lp_spec_design.specs.Domains.{node_before}
use Rattle.lp_spec_design.specs.Winners.{Crossing, crossing}
use Rattle.lp_spec_design.specs.Chains.{Operator, Clamp, Shift, side_part, rail_after}
use Rattle.lp_spec_design.specs.Registers.{retention_winner, retention}
use Rattle.lp_spec_design.specs.Settled.{rail_of}
use Rattle.lp_spec_network.specs.Pairs.{pairs_of}
use Rattle.lp_spec_fit.specs.Needs.{Mapped}
use Rattle.lp_spec_fit.specs.Choice.{clamp_choice, shifter_choice, register_choice, switch_choice}
use Rattle.lp_spec_realises.specs.Projects.{Project, network_of, functions_of, on_expression, design_of}
use Rattle.lp_spec_realises.specs.Operators.{OperatorAt, all_operators, SwitchAt, all_switches, Placement, placed_operator, placed_switch}
use Rattle.lp_spec_realises.specs.Realises.{cell_of, primary_at}

-- the cells to which strategies and switches are limited, by the numbers of the strategies and of the switches' origins; and the scopes in which switches were made
pub record Lists : Type 0 where
  pub of_strategy : ℕ → Mapped
  pub of_switch : ℕ → Mapped
  pub scope_of_switch : ℕ → Path

-- ---- places

-- the sides of a chain's operators, in its order: the upper part first at an output, the lower part first at an input
abbrev pub sides_of : Project → Crossing → List Side
sides_of p c = by (is_input c.bit.port)
  where
    arrives : Option ℕ
    arrives = rail_of (design_of p) (node_before p.structure c.bit)

    both : Side → Side → List Side
    both one two =
        map (λ o. one) (side_part (network_of p) p.intent one c arrives)
        ++ map (λ o. two) (side_part (network_of p) p.intent two c (rail_after arrives (side_part (network_of p) p.intent one c arrives)))

    by : Bool → List Side
    by true = both Lower Upper
    by false = both Upper Lower

abbrev pub parent_of : Path → Path
parent_of [] = []
parent_of (x ∷ p) = p

-- on the upper side self is in the boundary instance and parent in its parent; the lower side's self is in the parent
abbrev pub path_by : Path → Option Side → Location → Path
path_by p (Some Upper) Own = p
path_by p _ location = parent_of p

abbrev pub strategy_of : Operator → ℕ
strategy_of (Clamp t i) = t
strategy_of (Shift t a b) = t

abbrev pub operator_path : Project → OperatorAt → Option Path
operator_path p o = option_and_then (λ (t : Strategy). Some (path_by o.bit.path (slice_get (sides_of p (crossing p.structure p.intent (fuel_of p.structure) o.bit)) o.number) t.location)) (slice_get p.intent.strategies (strategy_of o.operator))

abbrev pub is_path : Path → Option Path → Bool
is_path p None = false
is_path p (Some q) = same_path p q

-- ---- choices

abbrev pub clamp_chosen : Project → Lists → Path → ℕ → Option SetOrigins → Option SetOrigins → Option Strategy → Option ℕ
clamp_chosen p l path k (Some supply) (Some place) (Some t) = clamp_choice (record { supply = supply; place = place; clamp = t.clamp; high = t.high; mapped = l.of_strategy k }) p.structure.cells
clamp_chosen p l path k _ _ _ = None

abbrev pub shifter_chosen : Project → Lists → ℕ → Option SetOrigins → Option SetOrigins → Option ℕ
shifter_chosen p l k (Some a) (Some b) = shifter_choice (record { input = a; output = b; pairs = pairs_of p.supplies a.power.0 b.power.0; margin = p.margin; mapped = l.of_strategy k }) p.structure.cells
shifter_chosen p l k _ _ = None

-- the place in the library of an operator's cell, where it stands in this instance
abbrev pub operator_chosen : Project → Lists → Path → Operator → Option ℕ
operator_chosen p l path (Clamp t i) = clamp_chosen p l path t (functions_of p (Some i)) (primary_at p path) (slice_get p.intent.strategies t)
operator_chosen p l path (Shift t a b) = shifter_chosen p l t (functions_of p (Some a)) (functions_of p (Some b))

abbrev pub switch_chosen : Project → Lists → SwitchAt → Option ℕ
switch_chosen p l x = switch_choice (record { on = on_expression x.high; mapped = l.of_switch x.origin }) p.structure.cells

abbrev pub register_by : Project → Lists → ℕ → Option CellView → Option SetOrigins → Option SetOrigins → Option (Node × Action) → Option (Node × Action) → Option ℕ
register_by p l k (Some source) (Some primary) (Some kept) (Some save) (Some restore) =
    register_choice (record { source = source; primary = primary; retention = kept; save = save.1; restore = restore.1; one_signal = same_node save.0 restore.0; mapped = l.of_strategy k }) p.structure.cells
register_by p l k _ _ _ _ _ = None

-- the place in the library of the cell for a register with retention
abbrev pub register_chosen : Project → Lists → Placed → Option ℕ
register_chosen p l a = by (retention_winner p.intent a.path a.instance)
  where
    by : Option (ℕ × Strategy) → Option ℕ
    by None = None
    by (Some t) = register_by p l t.0 (cell_of p.structure a) (primary_at p a.path) (functions_of p t.1.supply) t.1.save t.1.restore

-- a cell instance is one of the cell at a place of the library
abbrev pub is_of : Option CellView → Option CellView → Bool
is_of (Some c) (Some d) = bytes_eq c.name d.name
is_of _ _ = false

abbrev pub is_chosen : Project → Structure → Placed → Option ℕ → Bool
is_chosen p w a k = is_of (cell_of w a) (option_and_then (λ n. slice_get p.structure.cells n) k)

abbrev pub operator_as_chosen : Project → Structure → Lists → Placement → OperatorAt → Bool
operator_as_chosen p w l at o = is_path (placed_operator at o).path (operator_path p o) && is_chosen p w (placed_operator at o) (operator_chosen p l (placed_operator at o).path o.operator)

abbrev pub switch_as_chosen : Project → Structure → Lists → Placement → SwitchAt → Bool
switch_as_chosen p w l at x = same_path (placed_switch at x).path (l.scope_of_switch x.origin) && is_chosen p w (placed_switch at x) (switch_chosen p l x)

abbrev pub is_retained : Project → Placed → Bool
is_retained p a = is_some (retention p.intent a.path a.instance) && is_some (option_and_then (λ (c : CellView). c.state) (cell_of p.structure a))

abbrev pub register_as_chosen : Project → Structure → Lists → Placed → Bool
register_as_chosen p w l a = if is_retained p a then is_chosen p w a (register_chosen p l a) else true

-- each operator, each register with retention and each switch has the chosen cell, each added cell in its place
abbrev pub as_chosen : Project → Structure → Lists → Placement → Bool
as_chosen p w l at =
    list_all (operator_as_chosen p w l at) (all_operators p)
    && (list_all (register_as_chosen p w l) (cell_instances p.structure)
    && list_all (switch_as_chosen p w l at) (all_switches p))
