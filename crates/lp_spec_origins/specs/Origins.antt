-- Where supplies come from (IEEE 1801-2015 create_supply_port, create_power_switch; the numbers are an own rule).
use Rattle.std.specs.Prelude.{◌≡◌, ℕ, zero, suc, Bool, true, List, [], ◌∷◌, map, filter, Option, Some, None, option_and_then, slice_get}
use Rattle.lp_spec_design.specs.Keys.{Path}
use Rattle.lp_spec_design.specs.Graph.{numbered, some_of}
use Rattle.lp_spec_design.specs.Intents as intents
use Rattle.lp_spec_origins.specs.Commands.{Scoped, Supply, PortAt, NetAt, PowerSwitch, Command, MakesPort, MakesNet, Connects, MakesSwitch, MakesSet, MakesStrategy, MakesRow}
use Rattle.lp_spec_origins.specs.Groups.{Joined, group_of, is_among}

-- an input supply port of the top scope, or a switch, which feeds the net of its output; a port of a lower scope or of direction out joins and is no source
pub data Source : Type 0 where
  OfPort : Scoped → Source
  OfSwitch : PowerSwitch → Source

abbrev pub source_in : Command → Option Source
source_in (MakesPort p input) = by p.scope input
  where
    by : Path → Bool → Option Source
    by [] true = Some (OfPort p)
    by _ _ = None
source_in (MakesNet n) = None
source_in (Connects n ports) = None
source_in (MakesSet k) = None
source_in MakesStrategy = None
source_in MakesRow = None
source_in (MakesSwitch w) = Some (OfSwitch w)

-- the origins: the sources in the order of the commands that made them, counted from 0
abbrev pub sources : List Command → List Source
sources commands = some_of source_in commands

abbrev pub fed_by : Source → Supply
fed_by (OfPort p) = PortAt p
fed_by (OfSwitch w) = NetAt w.output

-- the origin of this number feeds the joined group of a port or net
pub record IsOriginOf (commands : List Command) (a : Supply) (o : ℕ) : Type 0 where
  pub source : Source
  pub numbered : slice_get (sources commands) o ≡ Some source
  pub joined : Joined commands a (fed_by source)

-- it is the only one: a group is used only where it has one
pub record IsOneOrigin (commands : List Command) (a : Supply) (o : ℕ) : Type 0 where
  pub is_origin : IsOriginOf commands a o
  pub only : (q : ℕ) → IsOriginOf commands a q → q ≡ o

-- ---- computing it; the fuel is the number of ports and nets

abbrev pub origins_of : List Command → ℕ → Supply → List ℕ
origins_of commands fuel a = map (λ x. x.0) (filter (λ x. is_among (fed_by x.1) (group_of commands fuel a)) (numbered 0 (sources commands)))

abbrev pub the_only : List ℕ → Option ℕ
the_only [] = None
the_only (o ∷ []) = Some o
the_only (o ∷ p ∷ rest) = None

-- the origin of a port or net, where its group has exactly one
abbrev pub origin_of : List Command → ℕ → Supply → Option ℕ
origin_of commands fuel a = the_only (origins_of commands fuel a)

-- the origin of the net of a switch's input; a port origin has none
abbrev pub input_by : List Command → ℕ → Option Source → Option ℕ
input_by commands fuel None = None
input_by commands fuel (Some (OfPort p)) = None
input_by commands fuel (Some (OfSwitch w)) = origin_of commands fuel (NetAt w.input)

abbrev pub input_of : List Command → ℕ → ℕ → Option ℕ
input_of commands fuel o = input_by commands fuel (slice_get (sources commands) o)

abbrev pub root_by : ℕ → Option Source → Option ℕ → Option ℕ
root_by o None above = None
root_by o (Some (OfPort p)) above = Some o
root_by o (Some (OfSwitch w)) above = above

-- a port origin is its own root, a switch has that of the origin of its input; no way to a root is longer than there are origins
abbrev pub root_within : List Command → ℕ → ℕ → ℕ → Option ℕ
root_within commands fuel zero o = None
root_within commands fuel (suc steps) o = root_by o (slice_get (sources commands) o) (option_and_then (λ i. root_within commands fuel steps i) (input_of commands fuel o))

-- an origin, as designs speak of it
abbrev pub origin_view : List Command → ℕ → Source → Option intents.Origin
origin_view commands fuel (OfPort p) = Some intents.FromPort
origin_view commands fuel (OfSwitch w) = option_and_then (λ i. Some (intents.FromSwitch i w.control w.high)) (origin_of commands fuel (NetAt w.input))
