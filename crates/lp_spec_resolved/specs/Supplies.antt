-- The supply network that commands have made, by the numbers of origins, and the project that they give with a netlist (IEEE 1801-2015 create_supply_port, create_power_switch, create_supply_set, add_port_state, add_pst_state; the numbers are an own rule).
use Rattle.std.specs.Prelude.{ℕ, Bool, false, List, [], map, filter, length, Option, Some, None, unwrap_or, slice_get}
use Rattle.std.specs.Option.{option_map}
use Rattle.lp_model.specs.declared.intent.RowState.{RowState}
use Rattle.lp_model.specs.declared.intent.ScopedName.{ScopedName}
use Rattle.lp_model.specs.declared.supply.OriginKind.{OriginKind}
use Rattle.lp_model.specs.declared.supply.OriginKind.TheVariants.{Port, Switch}
use Rattle.lp_model.specs.declared.supply.Origin.{Origin}
use Rattle.lp_model.specs.declared.supply.Row.{Row}
use Rattle.lp_model.specs.declared.supply.Supplies.{Supplies}
use Rattle.lp_spec_design.specs.Keys.{Path, Node, same_node}
use Rattle.lp_spec_design.specs.Netlists.{Structure}
use Rattle.lp_spec_design.specs.Nodes.{nodes_of}
use Rattle.lp_spec_design.specs.Graph.{numbered, some_of}
use Rattle.lp_spec_design.specs.Domains.{first_number}
use Rattle.lp_spec_origins.specs.Commands.{Scoped, same_scoped}
use Rattle.lp_spec_origins.specs.Origins.{Source, OfPort, OfSwitch, sources, root_within}
use Rattle.lp_spec_origins.specs.Origins as origins
use Rattle.lp_spec_origins.specs.Used.{sets_of}
use Rattle.lp_spec_fit.specs.Needs.{Mapped}
use Rattle.lp_spec_realises.specs.Projects.{Project}
use Rattle.lp_spec_realises.specs.Implements.{Lists}
use Rattle.lp_spec_faults.specs.StateTable.{StateTable, by_origins}
use Rattle.lp_spec_intent.specs.Made.{Made, SwitchFact, switches, CellsFact, cell_lists, first_of, network, supply_count}
use Rattle.lp_spec_intent.specs.Lookups.{numbers_have}
use Rattle.lp_spec_intent.specs.Intent.{resolved, set_list, origin_states, row_known, switch_known, state_table}

-- an origin is named as its supply port or its switch
abbrev pub source_name : Source → Scoped
source_name (OfPort p) = p
source_name (OfSwitch w) = w.name

-- a node by its place among all nodes
abbrev pub node_number : Structure → Node → ℕ
node_number s k = unwrap_or (first_number (same_node k) 0 (nodes_of s)) 0

-- over a netlist, where the names of origins are numbered
module _ (s : Structure) (name : Scoped → ScopedName) (m : Made) where
  -- the origin of a switch's input; one that it lacks has been refused
  abbrev pub input_made : ℕ → ℕ
  input_made o = unwrap_or (origins.input_of (network m) (supply_count m) o) 0

  -- the root of an origin; no way to a root is longer than there are origins
  abbrev pub root_made : ℕ → ℕ
  root_made o = unwrap_or (root_within (network m) (supply_count m) (length (sources (network m))) o) o

  abbrev pub kind_made : ℕ → Source → OriginKind
  kind_made o (OfPort p) = Port (origin_states m o)
  kind_made o (OfSwitch w) = Switch (record { 0 = input_made o }) (record { 0 = node_number s w.control }) w.high

  abbrev pub origin_made : ℕ × Source → Origin
  origin_made x = record { name = name (source_name x.1); kind = kind_made x.0 x.1; root = record { 0 = root_made x.0 } }

  -- without its rows
  abbrev pub bare_supplies : Supplies
  bare_supplies = record {
    origins = map origin_made (numbered 0 (sources (network m)));
    rows = [];
    sets = sets_of (network m) (supply_count m) (resolved m) (set_list m);
  }

  -- a row gives each origin what its columns list for it
  abbrev pub row_made : ℕ × List RowState → Row
  row_made x = record { states = by_origins (state_table bare_supplies m) x.1 }

  abbrev pub supplies_made : Supplies
  supplies_made = record { origins = bare_supplies.origins; rows = map row_made (some_of row_known m.known); sets = bare_supplies.sets }

  -- the state table, over the whole supply network
  abbrev pub table_made : StateTable
  table_made = state_table supplies_made m

  -- with the difference up to which a reader takes the value of a lower driver
  abbrev pub project_made : ℕ → Project
  project_made margin = record {
    structure = s;
    intent = resolved m;
    supplies = supplies_made;
    margin = margin;
    origin_names = map (λ x. (source_name x).name) (sources (network m));
  }

-- ---- what strategies and switches are limited to

abbrev pub names_strategy : ℕ → CellsFact → Bool
names_strategy t x = numbers_have x.strategies t

abbrev pub names_switch : ℕ → CellsFact → Bool
names_switch w x = numbers_have x.switches w

-- the cells of the first list that names it; none where none does
abbrev pub limited : (CellsFact → Bool) → List CellsFact → Mapped
limited names lists = option_map (λ (x : CellsFact). x.cells) (first_of (filter names lists))

-- the number of the switch that an origin is
abbrev pub is_switch_named : Option Source → SwitchFact → Bool
is_switch_named (Some (OfSwitch w)) x = same_scoped x.switch.name w.name
is_switch_named other x = false

abbrev pub switch_at : Made → ℕ → Option ℕ
switch_at m o = first_number (is_switch_named (slice_get (sources (network m)) o)) 0 (switches m)

abbrev pub limited_switch : Made → Option ℕ → Mapped
limited_switch m None = None
limited_switch m (Some w) = limited (names_switch w) (cell_lists m)

abbrev pub scope_at : Option Source → Path
scope_at None = []
scope_at (Some x) = (source_name x).scope

abbrev pub lists_made : Made → Lists
lists_made m = record {
  of_strategy = λ t. limited (names_strategy t) (cell_lists m);
  of_switch = λ o. limited_switch m (switch_at m o);
  scope_of_switch = λ o. scope_at (slice_get (sources (network m)) o);
}

-- the number of the command that made the switch that an origin is
abbrev pub is_made_at : ℕ → Made → ℕ × Scoped → Bool
is_made_at o m x = by (slice_get (sources (network m)) o)
  where
    by : Option Source → Bool
    by None = false
    by (Some y) = same_scoped x.1 (source_name y)

abbrev pub command_of_switch : Made → ℕ → ℕ
command_of_switch m o = unwrap_or (option_map (λ x. x.0) (first_of (filter (is_made_at o m) (some_of switch_known m.known)))) 0
