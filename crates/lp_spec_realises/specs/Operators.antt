-- All operators of a design, each with its place in its chain, and all switches (own rule).
use Rattle.std.specs.Prelude.{ℕ, Bool, List, [], ◌∷◌, map, flat_map}
use Rattle.lp_spec_design.specs.Keys.{Node, Way}
use Rattle.lp_spec_design.specs.Instances.{Placed}
use Rattle.lp_spec_design.specs.Nodes.{fuel_of}
use Rattle.lp_spec_design.specs.Graph.{numbered}
use Rattle.lp_spec_design.specs.Intents.{Origin, FromPort, FromSwitch}
use Rattle.lp_spec_design.specs.Domains.{BoundaryBit, boundary, way_of, node_before}
use Rattle.lp_spec_design.specs.Chains.{Operator, chain}
use Rattle.lp_spec_design.specs.Winners.{crossing}
use Rattle.lp_spec_design.specs.Settled.{rail_of}
use Rattle.lp_spec_realises.specs.Projects.{Project, network_of, design_of}

-- an operator: its boundary bit, its number in the chain from 0, and what it is
pub record OperatorAt : Type 0 where
  pub bit : BoundaryBit
  pub number : ℕ
  pub operator : Operator

-- the chain of a boundary bit
abbrev pub chain_of : Project → BoundaryBit → List Operator
chain_of p b = chain (network_of p) p.intent (crossing p.structure p.intent (fuel_of p.structure) b) (rail_of (design_of p) (node_before p.structure b))

abbrev pub operators_of_bit : Project → BoundaryBit → List OperatorAt
operators_of_bit p b = map (λ x. record { bit = b; number = x.0; operator = x.1 }) (numbered 0 (chain_of p b))

-- in port order, and each chain in the flow of data
abbrev pub all_operators : Project → List OperatorAt
all_operators p = flat_map (operators_of_bit p) (boundary p.structure p.intent)

-- a switch: its origin, the origin of its input, its control and its sense
pub record SwitchAt : Type 0 where
  pub origin : ℕ
  pub input : ℕ
  pub control : Node
  pub high : Bool

abbrev pub switches_among : List (ℕ × Origin) → List SwitchAt
switches_among [] = []
switches_among (x ∷ xs) = by x.1 (switches_among xs)
  where
    by : Origin → List SwitchAt → List SwitchAt
    by FromPort rest = rest
    by (FromSwitch input control high) rest = record { origin = x.0; input = input; control = control; high = high } ∷ rest

abbrev pub all_switches : Project → List SwitchAt
all_switches p = switches_among (numbered 0 (network_of p).origins)

-- which cell instance stands for an operator of a way, by its number, and for a switch, by its origin
pub record Placement : Type 0 where
  pub operator : Way → ℕ → Placed
  pub switch : ℕ → Placed

abbrev pub placed_operator : Placement → OperatorAt → Placed
placed_operator at o = at.operator (way_of o.bit) o.number

abbrev pub placed_switch : Placement → SwitchAt → Placed
placed_switch at w = at.switch w.origin
