-- The operators of a boundary bit and the supplies that drive nodes (own rule, after IEEE 1801-2015 set_isolation and set_level_shifter).
use Rattle.std.specs.Prelude.{ℕ, Bool, true, ◌&&◌, ◌||◌, List, [], ◌∷◌, ◌++◌, Option, Some, None, if◌then◌else◌}
use Rattle.lp_model.specs.declared.side.Side.{Side}
use Rattle.lp_model.specs.declared.side.Side.TheVariants.{Upper, Lower}
use Rattle.lp_model.specs.declared.intent.Rule.{Rule}
use Rattle.lp_model.specs.declared.intent.Rule.TheVariants.{LowToHigh, HighToLow, Both}
use Rattle.lp_model.specs.declared.intent.StrategyKind.TheVariants.{Isolation, Shifting}
use Rattle.lp_spec_design.specs.Keys.{Node, Way}
use Rattle.lp_spec_design.specs.Netlists.{Structure, first, is_input}
use Rattle.lp_spec_design.specs.Graph.{trail}
use Rattle.lp_spec_design.specs.Intents.{SetNumber, Strategy, Intent, Network}
use Rattle.lp_spec_design.specs.Domains.{BoundaryBit, way_of, start_rail, boundary}
use Rattle.lp_spec_design.specs.Winners.{Crossing, crossing, winner}
use Rattle.lp_spec_design.specs.Keys.{same_way}

-- what a value passes, each with the number of the strategy that asks for it
pub data Operator : Type 0 where
  Clamp : ℕ → SetNumber → Operator
  Shift : ℕ → SetNumber → SetNumber → Operator

-- the supply behind an operator
abbrev pub supply_behind : Operator → SetNumber
supply_behind (Clamp t i) = i
supply_behind (Shift t a b) = b

-- the supply that comes behind a list of operators: that of the last one, else what came
abbrev pub rail_after : Option SetNumber → List Operator → Option SetNumber
rail_after r [] = r
rail_after r (o ∷ operators) = rail_after (Some (supply_behind o)) operators

-- a shifter is wanted by its rule where one supply may be lower than the other by more than the threshold
abbrev pub by_rule : Network → Rule → ℕ → SetNumber → SetNumber → Bool
by_rule n LowToHigh h a b = n.lower a b h
by_rule n HighToLow h a b = n.lower b a h
by_rule n Both h a b = n.lower a b h || n.lower b a h

-- the shifter between two supplies, where there is a winner that inserts and wants one
abbrev pub shifter : Network → Option (ℕ × Strategy) → Option SetNumber → Option SetNumber → List Operator
shifter n (Some t) (Some a) (Some b) = if t.1.inserts && by_rule n t.1.rule t.1.threshold a b then Shift t.0 a b ∷ [] else []
shifter n _ _ _ = []

-- the supply to which a side's shifter leads: the one that its strategy names, else the readers'
abbrev pub target : Option (ℕ × Strategy) → List (Option SetNumber) → Option SetNumber
target (Some t) readers = by t.1.output readers
  where
    by : Option SetNumber → List (Option SetNumber) → Option SetNumber
    by (Some x) all = Some x
    by None [] = None
    by None (r ∷ all) = r
target None readers = None

abbrev pub clamp_of : Option (ℕ × Strategy) → Option (ℕ × SetNumber)
clamp_of None = None
clamp_of (Some t) = by t.1.inserts t.1.supply
  where
    by : Bool → Option SetNumber → Option (ℕ × SetNumber)
    by true (Some i) = Some (t.0, i)
    by _ _ = None

-- with a clamp: a shifter to its supply, the clamp, a shifter from it; without: a shifter
abbrev pub around_clamp : Network → Option (ℕ × Strategy) → Option SetNumber → Option SetNumber → Option (ℕ × SetNumber) → List Operator
around_clamp n shift t s None = shifter n shift s t
around_clamp n shift t s (Some c) = shifter n shift s (Some c.1) ++ (Clamp c.0 c.1 ∷ shifter n shift (Some c.1) t)

abbrev pub part : Network → Option (ℕ × Strategy) → Option (ℕ × Strategy) → List (Option SetNumber) → Option SetNumber → List Operator
part n iso shift readers s = around_clamp n shift (target shift readers) s (clamp_of iso)

abbrev pub side_part : Network → Intent → Side → Crossing → Option SetNumber → List Operator
side_part n i side c s = part n (winner n i Isolation side c) (winner n i Shifting side c) c.readers s

-- the two sides' parts in the flow of data: what comes behind the first reaches the second
abbrev pub joined : Network → Intent → Side → Side → Crossing → Option SetNumber → List Operator
joined n i one two c s = side_part n i one c s ++ side_part n i two c (rail_after s (side_part n i one c s))

-- data passes the upper side first at an output, and the lower side first at an input
abbrev pub chain : Network → Intent → Crossing → Option SetNumber → List Operator
chain n i c s = if is_input c.bit.port then joined n i Lower Upper c s else joined n i Upper Lower c s

-- ---- rails

-- the boundary bit of a way, if it is one
abbrev pub bit_of_way : Structure → Intent → Way → Option BoundaryBit
bit_of_way s i w = first (λ b. same_way (way_of b) w) (boundary s i)

-- what passes a way; only boundary bits have operators
abbrev pub operators_at : Structure → Network → Intent → ℕ → Way → Option SetNumber → List Operator
operators_at s n i fuel w r = by (bit_of_way s i w)
  where
    by : Option BoundaryBit → List Operator
    by None = []
    by (Some b) = chain n i (crossing s i fuel b) r

-- the rail at the end of a trail, from where it begins
abbrev pub rail_along : Structure → Network → Intent → ℕ → Node → List (Way × Node) → Option SetNumber
rail_along s n i fuel k [] = start_rail s i k
rail_along s n i fuel k (step ∷ back) = rail_after (rail_along s n i fuel step.1 back) (operators_at s n i fuel step.0 (rail_along s n i fuel step.1 back))

-- the supply that drives a node, if any
abbrev pub rail : Structure → Network → Intent → ℕ → Node → Option SetNumber
rail s n i fuel k = rail_along s n i fuel k (trail s fuel k)
