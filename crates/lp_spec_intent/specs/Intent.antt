-- What a list of commands says of a design: its power intent, with all names resolved, or the first fault of its names (IEEE 1801-2015; the subset is an own rule).
use Rattle.std.specs.Prelude.{ℕ, Bool, false, List, [], ◌∷◌, map, filter, Option, Some, None, Result, Ok, Err, slice_get}
use Rattle.std.specs.Option.{option_map}
use Rattle.lp_model.specs.CommandsView.{CommandView}
use Rattle.lp_model.specs.declared.intent.DeclaredState.{DeclaredState}
use Rattle.lp_model.specs.declared.intent.RowState.{RowState}
use Rattle.lp_model.specs.declared.intent.StrategyKind.{StrategyKind}
use Rattle.lp_model.specs.declared.intent.StrategyKind.TheVariants.{Isolation, Shifting, Retention}
use Rattle.lp_model.specs.declared.supply.Supplies.{Supplies}
use Rattle.lp_spec_design.specs.Netlists.{Structure}
use Rattle.lp_spec_design.specs.Graph.{numbered, some_of}
use Rattle.lp_spec_design.specs.Intents.{SetNumber, Domain, Strategy, Intent}
use Rattle.lp_spec_design.specs.Domains.{first_number}
use Rattle.lp_spec_origins.specs.Commands.{Scoped, Supply, same_scoped}
use Rattle.lp_spec_origins.specs.Origins.{Source, OfPort, OfSwitch, sources, origin_of}
use Rattle.lp_spec_origins.specs.Sets.{SupplySet}
use Rattle.lp_spec_faults.specs.Supplies.{Asked}
use Rattle.lp_spec_faults.specs.StateTable.{StateTable}
use Rattle.lp_spec_intent.specs.Names.{or_that}
use Rattle.lp_spec_intent.specs.Made.{Primary, DefaultIsolation, DefaultRetention, Fact, IsRow, IsSwitch, Known, Made, nothing}
use Rattle.lp_spec_intent.specs.Made.{DomainFact, domains, handle_of, SetFact, sets, StateFact, states, TableFact, table, StrategyFact, strategies, drivers, receivers, network, supply_count}
use Rattle.lp_spec_intent.specs.Lookups.{same_stated, as_stated}
use Rattle.lp_spec_intent.specs.Faults.{NameFault, earliest, faults_at}
use Rattle.lp_spec_intent.specs.Effects.{after}

-- ---- the commands in their order, up to the first that has a fault

abbrev pub unless : Option NameFault → Result Made NameFault → Result Made NameFault
unless None rest = rest
unless (Some f) rest = Err f

abbrev pub made_from : Structure → Made → List CommandView → Result Made NameFault
made_from s m [] = Ok m
made_from s m (c ∷ commands) = unless (earliest (faults_at s m c)) (made_from s (after s m c) commands)

abbrev pub made_by : Structure → List CommandView → Result Made NameFault
made_by s commands = made_from s nothing commands

-- ---- the intent: handles hold from whichever command gives them

abbrev pub domain_by : Made → ℕ × DomainFact → Domain
domain_by m d = record {
  elements = d.1.elements;
  primary = handle_of m d.0 Primary;
  isolation = handle_of m d.0 DefaultIsolation;
  retention = handle_of m d.0 DefaultRetention;
}

-- the default handle for a kind of strategy
abbrev pub default_of : Made → ℕ → StrategyKind → Option SetNumber
default_of m d Isolation = handle_of m d DefaultIsolation
default_of m d Shifting = None
default_of m d Retention = handle_of m d DefaultRetention

-- a strategy that names no supply has its domain's default handle
abbrev pub settled : Made → Strategy → Strategy
settled m t = record t { supply = or_that t.supply (default_of m t.domain t.kind) }

abbrev pub resolved : Made → Intent
resolved m = record {
  domains = map (domain_by m) (numbered 0 (domains m));
  strategies = map (λ (x : StrategyFact). settled m x.strategy) (strategies m);
  drivers = drivers m;
  receivers = receivers m;
}

-- ---- the supply network, as the lines of faults ask of it

abbrev pub columns_in : Option TableFact → List Supply
columns_in None = []
columns_in (Some t) = t.columns

abbrev pub listed_supplies : Made → List Supply
listed_supplies m = columns_in (table m)

abbrev pub set_list : Made → List SupplySet
set_list m = map (λ (x : SetFact). x.functions) (sets m)

abbrev pub asked : Made → Asked
asked m = record { commands = network m; sets = set_list m; intent = resolved m; table = listed_supplies m; fuel = supply_count m }

-- ---- states

-- the declared states of an origin
abbrev pub states_declared : Made → Option Source → List DeclaredState
states_declared m None = []
states_declared m (Some x) = map (λ (y : StateFact). y.state) (filter (λ (y : StateFact). same_stated y.of (as_stated x)) (states m))

abbrev pub origin_states : Made → ℕ → List DeclaredState
origin_states m o = states_declared m (slice_get (sources (network m)) o)

abbrev pub row_known : Known → Option (ℕ × List RowState)
row_known k = by k.fact
  where
    by : Fact → Option (ℕ × List RowState)
    by (IsRow name states) = Some (k.command, states)
    by _ = None

abbrev pub switch_known : Known → Option (ℕ × Scoped)
switch_known k = by k.fact
  where
    by : Fact → Option (ℕ × Scoped)
    by (IsSwitch switch port) = Some (k.command, switch.name)
    by _ = None

abbrev pub is_switch_source : Scoped → Source → Bool
is_switch_source name (OfPort p) = false
is_switch_source name (OfSwitch x) = same_scoped x.name name

-- the origin that a switch is
abbrev pub switch_origin : Made → ℕ × Scoped → Option (ℕ × ℕ)
switch_origin m x = option_map (λ o. (x.0, o)) (first_number (is_switch_source x.1) 0 (sources (network m)))

-- the state table over a supply network of these commands; a column without one origin has been refused
abbrev pub state_table : Supplies → Made → StateTable
state_table supplies m = record {
  supplies = supplies;
  columns = some_of (origin_of (network m) (supply_count m)) (listed_supplies m);
  rows = some_of row_known m.known;
  switches = some_of (switch_origin m) (some_of switch_known m.known);
  output_states = origin_states m;
}
