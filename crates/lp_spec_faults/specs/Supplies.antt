-- The lines of the table of faults about the supply network (own rule, after IEEE 1801-2015, supply networks).
use Rattle.std.specs.Prelude.{ℕ, zero, suc, ◌==◌, nat_lt, Bool, true, false, not, ◌&&◌, ◌||◌, List, [], ◌∷◌, map, filter, length, count_by, Option, Some, None, is_none, is_some, slice_get}
use Rattle.std.specs.List.{list_any}
use Rattle.lp_model.specs.declared.intent.DeclaredState.{DeclaredState}
use Rattle.lp_model.specs.declared.intent.DeclaredState.TheVariants.{On, Off}
use Rattle.lp_model.specs.declared.fault.intent.IntentLimit.{IntentLimit}
use Rattle.lp_model.specs.declared.fault.intent.IntentLimit.TheVariants as limits
use Rattle.lp_model.specs.declared.supply.OriginKind.{OriginKind}
use Rattle.lp_model.specs.declared.supply.OriginKind.TheVariants.{Port, Switch}
use Rattle.lp_model.specs.declared.supply.Origin.{Origin}
use Rattle.lp_model.specs.declared.supply.SetOrigins.{SetOrigins}
use Rattle.lp_model.specs.declared.supply.Supplies as model
use Rattle.lp_rows.specs.Network.{port_states, input_of, root_of}
use Rattle.lp_spec_design.specs.Graph.{numbered, some_of}
use Rattle.lp_spec_design.specs.Intents.{SetNumber, Intent}
use Rattle.lp_spec_origins.specs.Commands.{Scoped, Supply, PortAt, NetAt, Command, MakesPort, MakesNet, Connects, MakesSwitch, MakesSet, MakesStrategy, MakesRow, makes_strategy, makes_row}
use Rattle.lp_spec_origins.specs.Origins as origins
use Rattle.lp_spec_origins.specs.Sets.{SupplySet, net_origin}
use Rattle.lp_spec_origins.specs.Used.{is_used_set, is_used}
use Rattle.lp_spec_faults.specs.Lines.{Line}

-- the commands, the sets by their numbers, what the intent names, and what the state table lists; the fuel is the number of ports and nets
pub record Asked : Type 0 where
  pub commands : List Command
  pub sets : List SupplySet
  pub intent : Intent
  pub table : List Supply
  pub fuel : ℕ

-- ---- F43 Limit: strategies, rows of the state table and origins, by the commands that make them, since a network never has more

-- the size of the text is asked by its reader
abbrev pub is_over : List Command → IntentLimit → Bool
is_over commands limits.Strategies = nat_lt 4096 (count_by makes_strategy commands)
is_over commands limits.Rows = nat_lt 4096 (count_by makes_row commands)
is_over commands limits.Origins = nat_lt 1024 (length (origins.sources commands))
is_over commands limits.Bytes = false

-- limits 2, 3 and 4
abbrev pub intent_limits : List Command → Line IntentLimit
intent_limits commands = record { places = limits.Strategies ∷ limits.Rows ∷ limits.Origins ∷ []; test = is_over commands }

-- ---- F37 Undriven

-- what commands make, in their order
pub data Made : Type 0 where
  SetMade : SetNumber → Made
  SupplyMade : Supply → Made

abbrev pub made_by : Command → Option Made
made_by (MakesPort p input) = Some (SupplyMade (PortAt p))
made_by (MakesNet n) = Some (SupplyMade (NetAt n))
made_by (MakesSet k) = Some (SetMade k)
made_by (Connects n ports) = None
made_by (MakesSwitch w) = None
made_by MakesStrategy = None
made_by MakesRow = None

abbrev pub lacks_function : Option SupplySet → Bool
lacks_function None = false
lacks_function (Some s) = is_none s.power || is_none s.gnd

abbrev pub origin_count : Asked → Supply → ℕ
origin_count x a = length (origins.origins_of x.commands x.fuel a)

-- a used set lacks its power or its ground; a used port or net has no origin
abbrev pub is_undriven : Asked → Made → Bool
is_undriven x (SetMade k) = is_used_set x.intent k && lacks_function (slice_get x.sets k)
is_undriven x (SupplyMade a) = is_used x.commands x.intent x.sets x.table a && (origin_count x a == 0)

abbrev pub undriven : Asked → Line Made
undriven x = record { places = some_of made_by x.commands; test = is_undriven x }

-- ---- F38 TwoSources: a net whose joined group has two origins

abbrev pub net_made : Command → Option Scoped
net_made (MakesNet n) = Some n
net_made _ = None

abbrev pub two_sources : Asked → Line Scoped
two_sources x = record { places = some_of net_made x.commands; test = λ n. nat_lt 1 (origin_count x (NetAt n)) }

-- ---- F39 SupplyLoop: the input of a switch comes from its own output

abbrev pub comes_from : List Command → ℕ → ℕ → ℕ → ℕ → Bool
comes_from commands fuel zero target o = false
comes_from commands fuel (suc steps) target o = by (origins.input_of commands fuel o) (λ i. comes_from commands fuel steps target i)
  where
    by : Option ℕ → (ℕ → Bool) → Bool
    by None further = false
    by (Some i) further = (i == target) || further i

-- the origins by their numbers; a port has no input
abbrev pub supply_loop : Asked → Line ℕ
supply_loop x = record { places = map (λ s. s.0) (numbered 0 (origins.sources x.commands)); test = λ o. comes_from x.commands x.fuel (length (origins.sources x.commands)) o o }

-- ---- F63 GroundMismatch: a used set has another ground than the first used one

abbrev pub used_sets : Asked → List (ℕ × SupplySet)
used_sets x = filter (λ s. is_used_set x.intent s.0) (numbered 0 x.sets)

abbrev pub ground_of : Asked → SupplySet → Option ℕ
ground_of x s = net_origin x.commands x.fuel s.gnd

abbrev pub differs : Option ℕ → Option ℕ → Bool
differs (Some a) (Some b) = not (a == b)
differs _ _ = true

abbrev pub other_ground : Asked → List (ℕ × SupplySet) → ℕ × SupplySet → Bool
other_ground x [] s = false
other_ground x (first ∷ rest) s = differs (ground_of x first.1) (ground_of x s.1)

abbrev pub ground_mismatch : Asked → Line (ℕ × SupplySet)
ground_mismatch x = record { places = used_sets x; test = other_ground x (used_sets x) }

-- the first field of its line, before the set that differs: the first used set in command order
abbrev pub number_of_first : List (ℕ × SupplySet) → Option SetNumber
number_of_first [] = None
number_of_first (s ∷ rest) = Some s.0

abbrev pub first_used : Asked → Option SetNumber
first_used x = number_of_first (used_sets x)

-- ---- F41 GroundLevel and F40 NoStates, over the origins of the state table

-- a used set has such origins; only used sets have any
abbrev pub has_function : (SetOrigins → Bool) → model.Supplies → Bool
has_function test s = list_any by s.sets
  where
    by : Option SetOrigins → Bool
    by None = false
    by (Some set) = test set

-- n-wells count as power, p-wells as ground
abbrev pub is_power_of : ℕ → SetOrigins → Bool
is_power_of o s = (s.power.0 == o) || ((s.nwell.0 == o) || (s.deepnwell.0 == o))

abbrev pub is_ground_of : ℕ → SetOrigins → Bool
is_ground_of o s = (s.gnd.0 == o) || ((s.pwell.0 == o) || (s.deeppwell.0 == o))

abbrev pub is_on_above : DeclaredState → Bool
is_on_above (On v) = not (v == 0)
is_on_above Off = false

abbrev pub is_bad_ground : model.Supplies → ℕ → Bool
is_bad_ground s o =
    has_function (is_ground_of o) s
    && (list_any is_on_above (port_states s o) || (has_function (is_power_of o) s || is_some (input_of s o)))

abbrev pub ground_level : model.Supplies → Line ℕ
ground_level s = record { places = map (λ x. x.0) (numbered 0 s.origins); test = is_bad_ground s }

abbrev pub is_empty : {A : Type 0} → List A → Bool
is_empty [] = true
is_empty (x ∷ xs) = false

abbrev pub declared_by : Option Origin → Bool
declared_by None = true
declared_by (Some origin) = by origin.kind
  where
    by : OriginKind → Bool
    by (Port states) = not (is_empty states)
    by (Switch input control high) = true

abbrev pub is_root_of_switch : model.Supplies → ℕ → Bool
is_root_of_switch s o = list_any (λ x. is_some (input_of s x.0) && (root_of s x.0 == o)) (numbered 0 s.origins)

-- a port without declared states is the power of a used set, or the root of a switch
abbrev pub lacks_states : model.Supplies → ℕ → Bool
lacks_states s o = not (declared_by (slice_get s.origins o)) && (has_function (λ set. set.power.0 == o) s || is_root_of_switch s o)

abbrev pub no_states : model.Supplies → Line ℕ
no_states s = record { places = map (λ x. x.0) (numbered 0 s.origins); test = lacks_states s }
