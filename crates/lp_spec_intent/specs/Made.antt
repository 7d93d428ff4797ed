-- What commands of power intent have made, as facts in their order (IEEE 1801-2015, the commands that are read).
use Rattle.std.specs.Prelude.{ℕ, ◌==◌, ◌+◌, Bool, true, false, ◌&&◌, List, [], ◌∷◌, map, length, codes, Option, Some, None, if◌then◌else◌}
use Rattle.lp_model.specs.declared.intent.DeclaredState.{DeclaredState}
use Rattle.lp_model.specs.declared.intent.RowState.{RowState}
use Rattle.lp_spec_design.specs.Keys.{Name, Path}
use Rattle.lp_spec_design.specs.Graph.{some_of}
use Rattle.lp_spec_design.specs.Intents.{SetNumber, Strategy, PortSupply}
use Rattle.lp_spec_origins.specs.Commands.{Scoped, Supply, PowerSwitch, Command, MakesPort, MakesNet, Connects, MakesSwitch, MakesSet, MakesStrategy, MakesRow}
use Rattle.lp_spec_origins.specs.Sets.{SupplySet}

-- the handles of a domain
pub data Handle : Type 0 where
  Primary : Handle
  DefaultIsolation : Handle
  DefaultRetention : Handle

abbrev pub same_handle : Handle → Handle → Bool
same_handle Primary Primary = true
same_handle DefaultIsolation DefaultIsolation = true
same_handle DefaultRetention DefaultRetention = true
same_handle _ _ = false

abbrev pub handle_text : Handle → Name
handle_text Primary = codes "primary"
handle_text DefaultIsolation = codes "default_isolation"
handle_text DefaultRetention = codes "default_retention"

abbrev pub all_handles : List Handle
all_handles = Primary ∷ DefaultIsolation ∷ DefaultRetention ∷ []

-- a set by create_supply_set, or the one that set_domain_supply_net makes of a domain
pub data SetName : Type 0 where
  Own : Scoped → SetName
  PrimaryOf : ℕ → SetName

-- what has states of its own: a supply port, or the output of a switch
pub data Stated : Type 0 where
  PortStates : Scoped → Stated
  SwitchStates : Scoped → Stated

pub data Fact : Type 0 where
  -- a domain and its elements
  IsDomain : Scoped → List Path → Fact
  -- a handle of a domain, by its number, is a set
  IsHandle : ℕ → Handle → SetNumber → Fact
  -- a set, by its number in command order
  IsSet : SetNumber → SetName → SupplySet → Fact
  -- a supply port, and whether its direction is in
  IsPort : Scoped → Bool → Fact
  IsNet : Scoped → Fact
  AreConnected : Scoped → List Scoped → Fact
  -- a switch and the name of its output port
  IsSwitch : PowerSwitch → Name → Fact
  -- a state, by its name
  IsState : Stated → Name → DeclaredState → Fact
  -- the state table and its columns, and a row by its name
  IsTable : Scoped → List Supply → Fact
  IsRow : Name → List RowState → Fact
  IsStrategy : Name → Strategy → Fact
  -- the supply of the environment's driver or receiver at a top port
  IsDriver : PortSupply → Fact
  IsReceiver : PortSupply → Fact
  -- the name of a use_interface_cell, and the cells to which strategies and switches, by their numbers, are limited
  IsInterface : Scoped → Fact
  AreCells : List ℕ → List ℕ → List Name → Fact

-- a fact with the number of its command
pub record Known : Type 0 where
  pub command : ℕ
  pub fact : Fact

-- the current scope, the number of the next command, and the facts so far
pub record Made : Type 0 where
  pub scope : Path
  pub count : ℕ
  pub known : List Known

abbrev pub nothing : Made
nothing = record { scope = []; count = 0; known = [] }

abbrev pub facts : Made → List Fact
facts m = map (λ k. k.fact) m.known

-- ---- the facts of one sort, in command order

pub record DomainFact : Type 0 where
  pub name : Scoped
  pub elements : List Path

abbrev pub domain_fact : Fact → Option DomainFact
domain_fact (IsDomain name elements) = Some (record { name = name; elements = elements })
domain_fact _ = None

abbrev pub domains : Made → List DomainFact
domains m = some_of domain_fact (facts m)

-- the set of a handle
abbrev pub handle_fact : ℕ → Handle → Fact → Option SetNumber
handle_fact d h (IsHandle e g k) = if (d == e) && same_handle h g then Some k else None
handle_fact d h _ = None

abbrev pub first_of : {A : Type 0} → List A → Option A
first_of [] = None
first_of (x ∷ xs) = Some x

abbrev pub handle_of : Made → ℕ → Handle → Option SetNumber
handle_of m d h = first_of (some_of (handle_fact d h) (facts m))

pub record SetFact : Type 0 where
  pub number : SetNumber
  pub name : SetName
  pub functions : SupplySet

abbrev pub set_fact : Fact → Option SetFact
set_fact (IsSet k name functions) = Some (record { number = k; name = name; functions = functions })
set_fact _ = None

abbrev pub sets : Made → List SetFact
sets m = some_of set_fact (facts m)

abbrev pub set_count : Made → ℕ
set_count m = length (sets m)

abbrev pub port_fact : Fact → Option Scoped
port_fact (IsPort name input) = Some name
port_fact _ = None

abbrev pub ports : Made → List Scoped
ports m = some_of port_fact (facts m)

abbrev pub net_fact : Fact → Option Scoped
net_fact (IsNet name) = Some name
net_fact _ = None

abbrev pub nets : Made → List Scoped
nets m = some_of net_fact (facts m)

pub record SwitchFact : Type 0 where
  pub switch : PowerSwitch
  pub port : Name

abbrev pub switch_fact : Fact → Option SwitchFact
switch_fact (IsSwitch switch port) = Some (record { switch = switch; port = port })
switch_fact _ = None

abbrev pub switches : Made → List SwitchFact
switches m = some_of switch_fact (facts m)

pub record StateFact : Type 0 where
  pub of : Stated
  pub name : Name
  pub state : DeclaredState

abbrev pub state_fact : Fact → Option StateFact
state_fact (IsState of name state) = Some (record { of = of; name = name; state = state })
state_fact _ = None

abbrev pub states : Made → List StateFact
states m = some_of state_fact (facts m)

pub record TableFact : Type 0 where
  pub name : Scoped
  pub columns : List Supply

abbrev pub table_fact : Fact → Option TableFact
table_fact (IsTable name columns) = Some (record { name = name; columns = columns })
table_fact _ = None

-- there is at most one
abbrev pub table : Made → Option TableFact
table m = first_of (some_of table_fact (facts m))

abbrev pub row_fact : Fact → Option Name
row_fact (IsRow name states) = Some name
row_fact _ = None

abbrev pub row_names : Made → List Name
row_names m = some_of row_fact (facts m)

pub record StrategyFact : Type 0 where
  pub name : Name
  pub strategy : Strategy

abbrev pub strategy_fact : Fact → Option StrategyFact
strategy_fact (IsStrategy name strategy) = Some (record { name = name; strategy = strategy })
strategy_fact _ = None

abbrev pub strategies : Made → List StrategyFact
strategies m = some_of strategy_fact (facts m)

abbrev pub driver_fact : Fact → Option PortSupply
driver_fact (IsDriver a) = Some a
driver_fact _ = None

abbrev pub drivers : Made → List PortSupply
drivers m = some_of driver_fact (facts m)

abbrev pub receiver_fact : Fact → Option PortSupply
receiver_fact (IsReceiver a) = Some a
receiver_fact _ = None

abbrev pub receivers : Made → List PortSupply
receivers m = some_of receiver_fact (facts m)

abbrev pub interface_fact : Fact → Option Scoped
interface_fact (IsInterface name) = Some name
interface_fact _ = None

abbrev pub interfaces : Made → List Scoped
interfaces m = some_of interface_fact (facts m)

pub record CellsFact : Type 0 where
  pub strategies : List ℕ
  pub switches : List ℕ
  pub cells : List Name

abbrev pub cells_fact : Fact → Option CellsFact
cells_fact (AreCells strategies switches cells) = Some (record { strategies = strategies; switches = switches; cells = cells })
cells_fact _ = None

abbrev pub cell_lists : Made → List CellsFact
cell_lists m = some_of cells_fact (facts m)

-- ---- the supply network

abbrev pub network_fact : Fact → Option Command
network_fact (IsPort name input) = Some (MakesPort name input)
network_fact (IsNet name) = Some (MakesNet name)
network_fact (AreConnected net ports) = Some (Connects net ports)
network_fact (IsSwitch switch port) = Some (MakesSwitch switch)
network_fact (IsSet k name functions) = Some (MakesSet k)
network_fact (IsStrategy name strategy) = Some MakesStrategy
network_fact (IsRow name states) = Some MakesRow
network_fact _ = None

abbrev pub network : Made → List Command
network m = some_of network_fact (facts m)

-- no way over ports and nets is longer than there are of them
abbrev pub supply_count : Made → ℕ
supply_count m = length (ports m) + length (nets m)
