-- Power intent over the paths of a design: domains, strategies and the supplies of top ports (IEEE 1801-2015 create_power_domain, set_isolation, set_level_shifter, set_retention, set_port_attributes).
use Rattle.std.specs.Prelude.{ℕ, ◌==◌, Bool, false, ◌&&◌, List, Option, Some, slice_get}
use Rattle.lp_model.specs.declared.library.Action.{Action}
use Rattle.lp_model.specs.declared.side.Location.{Location}
use Rattle.lp_model.specs.declared.intent.Applies.{Applies}
use Rattle.lp_model.specs.declared.intent.Rule.{Rule}
use Rattle.lp_model.specs.declared.intent.StrategyKind.{StrategyKind}
use Rattle.lp_spec_design.specs.Keys.{Name, Path, Node}

-- domains, supply sets and strategies go by their numbers in command order
abbrev pub SetNumber : Type 0
SetNumber = ℕ

pub record Domain : Type 0 where
  pub elements : List Path
  pub primary : Option SetNumber
  pub isolation : Option SetNumber
  pub retention : Option SetNumber

-- what an element names: an instance, a cell instance of an instance, a port of an instance, or a bit of one
pub data Element : Type 0 where
  AtInstance : Path → Element
  AtCell : Path → Name → Element
  AtPort : Path → Name → Element
  AtBit : Path → Name → Option ℕ → Element

-- a supply set, or a domain, which stands for its primary supply
pub data Named : Type 0 where
  BySet : SetNumber → Named
  ByDomain : ℕ → Named

-- the command is the number of the one that made it, from 0
pub record Strategy : Type 0 where
  pub kind : StrategyKind
  pub domain : ℕ
  pub command : ℕ
  pub inserts : Bool
  pub elements : Option (List Element)
  pub excluded : List Element
  pub applies : Applies
  pub source : Option Named
  pub sink : Option Named
  pub diff : Bool
  pub location : Location
  pub clamp : Bool
  pub high : Bool
  pub rule : Rule
  pub threshold : ℕ
  pub supply : Option SetNumber
  pub input : Option SetNumber
  pub output : Option SetNumber
  pub control : Option Node
  pub save : Option (Node × Action)
  pub restore : Option (Node × Action)

-- the supply of the environment's side of a top port, where one is given
pub record PortSupply : Type 0 where
  pub port : Name
  pub supply : SetNumber

pub record Intent : Type 0 where
  pub domains : List Domain
  pub strategies : List Strategy
  pub drivers : List PortSupply
  pub receivers : List PortSupply

-- the origins of a supply set's power and ground
pub record SupplySet : Type 0 where
  pub power : ℕ
  pub gnd : ℕ

-- a supply port of the top, or a switch with the origin of its input, its control and its sense
pub data Origin : Type 0 where
  FromPort : Origin
  FromSwitch : ℕ → Node → Bool → Origin

-- the supply network: sets and origins by their numbers, whether the state table allows one set to be lower than another by more than a number, and up to which difference a reader takes the value of a lower driver (both in microvolts)
pub record Network : Type 0 where
  pub sets : List SupplySet
  pub origins : List Origin
  pub lower : SetNumber → SetNumber → ℕ → Bool
  pub margin : ℕ

abbrev pub same_origins : Option SupplySet → Option SupplySet → Bool
same_origins (Some a) (Some b) = (a.power == b.power) && (a.gnd == b.gnd)
same_origins _ _ = false

-- two sets are the same where their power origins are equal and their ground origins are equal
abbrev pub same_set : Network → SetNumber → SetNumber → Bool
same_set n a b = same_origins (slice_get n.sets a) (slice_get n.sets b)
