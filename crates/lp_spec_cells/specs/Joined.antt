-- How the power and ground pins of one cell instance of a netlist are joined to supply origins, and in which states these are (own rule, after Liberty pg_pin and IEEE 1801-2015 connect_supply_net).
use Rattle.std.specs.Prelude.{◌≡◌, ℕ, Bool, List, [], ◌∷◌, Option, Some, None, if◌then◌else◌}
use Rattle.std.specs.List.{list_all}
use Rattle.lp_tern.specs.declared.supply.SupplyState.{SupplyState}
use Rattle.lp_tern.specs.declared.supply.SupplyState.TheVariants.{On}
use Rattle.lp_expr.specs.declared.step.Step.TheVariants.{Variable, Not}
use Rattle.lp_model.specs.declared.supply.SetOrigins.{SetOrigins}
use Rattle.lp_model.specs.LibraryView.{ExprView, PgPinView, CellView}
use Rattle.lp_spec_design.specs.Keys.{Name, Path}
use Rattle.lp_spec_design.specs.Graph.{numbered}
use Rattle.lp_spec_design.specs.Winners.{IsIn}
use Rattle.lp_spec_design.specs.Settled.{is_on}
use Rattle.lp_spec_pins.specs.Pins.{SupplySource, Powered, PinAssignment, Pair, state_from, source_of_pg}
use Rattle.lp_spec_fit.specs.Joins.{Joins}
use Rattle.lp_spec_fit.specs.PowerDown.{is_set_on}

-- where each origin comes into a netlist: a supply port of the top or a switched pin
abbrev pub Comes : Type 0
Comes = ℕ → Option SupplySource

-- the state of each origin
abbrev pub OriginStates : Type 0
OriginStates = ℕ → SupplyState

-- a power or ground pin, by its number in the cell, is joined to the origin that a join gives, and this one comes into the netlist
pub record PgIsJoined (w : Powered) (path : Path) (x : Name) (source : Comes) (join : Joins) (k : ℕ) (g : PgPinView) : Type 0 where
  pub origin : ℕ
  pub supply : SupplySource
  pub joins : join k g ≡ Some origin
  pub comes : source origin ≡ Some supply
  pub pin : source_of_pg w path x (Some g) ≡ Some supply

-- each one of the instance is
pub record IsJoinedBy (w : Powered) (path : Path) (x : Name) (c : CellView) (source : Comes) (join : Joins) : Type 0 where
  pub each : (k : ℕ) (g : PgPinView) → IsIn (k, g) (numbered 0 c.pgs) → PgIsJoined w path x source join k g

-- no two origins come in at one place
abbrev pub Apart : Comes → Type 0
Apart source = (a b : ℕ) (s : SupplySource) → source a ≡ Some s → source b ≡ Some s → a ≡ b

-- the supplies of the netlist have the states of their origins
abbrev pub Stands : PinAssignment → Comes → OriginStates → Type 0
Stands B source st = (o : ℕ) → state_from B (source o) ≡ st o

-- what is so of every cell instance of the netlist
pub record StandsApart (B : PinAssignment) (source : Comes) (st : OriginStates) : Type 0 where
  pub apart : Apart source
  pub stands : Stands B source st

-- a set is on where its power and its ground are, and all of some sets
abbrev pub on_in : OriginStates → SetOrigins → Bool
on_in st s = is_set_on (λ o. is_on (st o)) s

abbrev pub all_on : OriginStates → List SetOrigins → Bool
all_on st sets = list_all (on_in st) sets

-- a switch is on where its control, the one variable, is 1, or where it is 0
abbrev pub on_where : Name → Bool → ExprView
on_where v high = record { variables = v ∷ []; steps = if high then Variable 0 ∷ [] else Variable 0 ∷ Not ∷ [] }

-- the states of a power and a ground as a related supply; a ground that a pin lacks counts as on
abbrev pub ground_in : SupplyState → Option ℕ → SupplyState
ground_in s None = On 0
ground_in s (Some k) = s

abbrev pub pair_in : OriginStates → ℕ → ℕ → Option ℕ → Pair
pair_in st power gnd pin = record { power = st power; gnd = ground_in (st gnd) pin }
