-- The commands that make a supply network, their names whole, and those that make strategies and rows of the state table (IEEE 1801-2015 create_supply_port, create_supply_net, connect_supply_net, create_power_switch, create_supply_set, set_isolation, set_level_shifter, set_retention, add_pst_state).
use Rattle.std.specs.Prelude.{ℕ, Bool, true, false, ◌&&◌, List, bytes_eq}
use Rattle.lp_spec_design.specs.Keys.{Name, Path, same_path, Node}

-- a name with the scope in which it was made
pub record Scoped : Type 0 where
  pub scope : Path
  pub name : Name

abbrev pub same_scoped : Scoped → Scoped → Bool
same_scoped a b = bytes_eq a.name b.name && same_path a.scope b.scope

-- a supply port or a supply net: they have separate name spaces
pub data Supply : Type 0 where
  PortAt : Scoped → Supply
  NetAt : Scoped → Supply

abbrev pub same_supply : Supply → Supply → Bool
same_supply (PortAt a) (PortAt b) = same_scoped a b
same_supply (NetAt a) (NetAt b) = same_scoped a b
same_supply _ _ = false

-- a switch from the net of its input to that of its output, on where its control is 1, or where it is 0
pub record PowerSwitch : Type 0 where
  pub name : Scoped
  pub input : Scoped
  pub output : Scoped
  pub control : Node
  pub high : Bool

pub data Command : Type 0 where
  -- a supply port, and whether its direction is in
  MakesPort : Scoped → Bool → Command
  MakesNet : Scoped → Command
  -- a net with ports
  Connects : Scoped → List Scoped → Command
  MakesSwitch : PowerSwitch → Command
  -- a supply set, by its number in command order
  MakesSet : ℕ → Command
  -- a strategy
  MakesStrategy : Command
  -- a row of the state table
  MakesRow : Command

abbrev pub makes_strategy : Command → Bool
makes_strategy MakesStrategy = true
makes_strategy _ = false

abbrev pub makes_row : Command → Bool
makes_row MakesRow = true
makes_row _ = false
