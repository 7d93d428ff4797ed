-- What holds of the entries that are done (own rule).
use Rattle.std.specs.Prelude.{◌≡◌, ℕ, suc, Bool, true, false, ◌||◌, List, [], ◌∷◌, ◌++◌, filter, length, ◌≤◌, Option, Some, None, is_some, slice_get}
use Rattle.lp_spec_design.specs.Keys.{Name, Path, same_path, Node, Inner, Outer, Fixed, Way, same_way, From}
use Rattle.lp_spec_design.specs.Graph.{source_of, some_of}
use Rattle.lp_spec_design.specs.Domains.{BoundaryBit, boundary, way_of, node_before}
use Rattle.lp_spec_design.specs.Chains.{bit_of_way}
use Rattle.lp_spec_design.specs.Winners.{IsIn}
use Rattle.lp_spec_design.specs.Intents.{Origin, FromPort, FromSwitch}
use Rattle.lp_spec_design.specs.Registers.{is_above}
use Rattle.lp_spec_design.specs.Settled.{rail_of, operators_of}
use Rattle.lp_spec_realises.specs.Projects.{Project, design_of}
use Rattle.lp_spec_realises.specs.Operators.{OperatorAt, operators_of_bit, all_operators, chain_of}
use Rattle.lp_spec_realises.specs.Implements.{Lists}
use Rattle.lp_spec_written.specs.Places.{Standing, Plan, standing}
use Rattle.lp_spec_written.specs.Supplies.{switch_of}
use Rattle.lp_spec_written.specs.Routes.{Part, PortOut, Between, PortIn, has_part}
use Rattle.lp_spec_hub.specs.Spots.{on_way, is_behind}
use Rattle.lp_spec_hub.specs.Drives.{is_fixed, own_instance, toward, part_at}
use Rattle.lp_spec_hub.specs.Begins.{Begin, InSwitch, InPort}

-- ---- operators

-- data passes the operators before the edge first: what follows an operator behind it stands behind it too (F57 holds nowhere)
abbrev pub IsInFlow : List Standing → Type 0
IsInFlow all =
    (w : Way) (k : ℕ) (o next : Standing)
    → slice_get (on_way all w) k ≡ Some o
    → slice_get (on_way all w) (suc k) ≡ Some next
    → is_behind o ≡ true
    → is_behind next ≡ true

-- each way that leads to a node has as many operators as its chain
abbrev pub HasAll : Project → List Standing → Type 0
HasAll p all =
    (k j : Node) (w : Way)
    → source_of p.structure k ≡ Some (From w j)
    → length (on_way all w) ≡ length (operators_of (design_of p) w (rail_of (design_of p) j))

-- ---- parts of control routes

-- controls are net bits of instances, or constants
abbrev pub is_control : Node → Bool
is_control (Inner n i own) = true
is_control (Outer n i) = false
is_control (Fixed b) = true

-- a control has come to an instance
abbrev pub carries : List Part → Node → Path → Bool
carries made k x = (is_fixed k || same_path (own_instance k) x) || (has_part made (part_at k x Between) || (has_part made (part_at k x PortOut) || has_part made (part_at k x PortIn)))

-- the instance of an input port is not the top, and the control has come to its parent
pub record ComesDown (made : List Part) (k : Node) (x : Path) : Type 0 where
  pub name : Name
  pub parent : Path
  pub is : x ≡ name ∷ parent
  pub above : carries made k parent ≡ true

-- what each part comes from is there: an output port stands above the control, and so does one in the instance on the way
-- to it; a wire has such a port below it
pub record IsRouted (made : List Part) : Type 0 where
  pub above : (k : Node) (x : Path) → has_part made (part_at k x PortOut) ≡ true → is_above x (own_instance k) ≡ true
  pub up : (k : Node) (x : Path) → has_part made (part_at k x PortOut) ≡ true → same_path (own_instance k) x ≡ false → has_part made (part_at k (toward (own_instance k) x) PortOut) ≡ true
  pub wire : (k : Node) (x : Path) → has_part made (part_at k x Between) ≡ true → has_part made (part_at k (toward (own_instance k) x) PortOut) ≡ true
  pub down : (k : Node) (x : Path) → has_part made (part_at k x PortIn) ≡ true → ComesDown made k x

-- an input port for a control stands in no instance above the control's own
abbrev pub StandsAside : List Part → Type 0
StandsAside made = (k : Node) (x : Path) → has_part made (part_at k x PortIn) ≡ true → is_above x (own_instance k) ≡ false

-- ---- supplies

-- where an origin begins: at its port, or at its switch
abbrev pub origin_begin : ℕ → Origin → Begin
origin_begin o FromPort = InPort o
origin_begin o (FromSwitch input control high) = InSwitch o

-- a switch is done
abbrev pub is_there : Plan → ℕ → Origin → Bool
is_there a o FromPort = true
is_there a o (FromSwitch input control high) = is_some (switch_of a o)

-- ---- the whole plan

-- an operator has its place and its cell (F60 holds nowhere)
abbrev pub HasItsCells : Project → Lists → Type 0
HasItsCells p l = (o : OperatorAt) → IsIn o (all_operators p) → is_some (standing p l o) ≡ true

-- no two boundary bits have one way (F12 holds nowhere)
abbrev pub HasWaysApart : Project → Type 0
HasWaysApart p = (w : Way) → length (filter (λ (b : BoundaryBit). same_way (way_of b) w) (boundary p.structure p.intent)) ≤ 1

-- a way of a boundary bit that leads to a node comes from the node before the bit
abbrev pub HasWaysFromBits : Project → Type 0
HasWaysFromBits p =
    (k j : Node) (w : Way) (b : BoundaryBit)
    → source_of p.structure k ≡ Some (From w j)
    → bit_of_way p.structure p.intent w ≡ Some b
    → node_before p.structure b ≡ j

-- the operators of the bit of a way, in the flow of data
abbrev pub standing_of : Project → Lists → Option BoundaryBit → List Standing
standing_of p l None = []
standing_of p l (Some b) = some_of (standing p l) (operators_of_bit p b)

-- operator k of a way is number k of the chain of its bit
pub record IsNumber (p : Project) (b : BoundaryBit) (k : ℕ) (o : Standing) : Type 0 where
  pub bit : o.asked.bit ≡ b
  pub number : o.asked.number ≡ k
  pub operator : slice_get (chain_of p b) k ≡ Some o.asked.operator

-- the operators of each way that are done are the first ones of the plan there
abbrev pub AreFirst : List Standing → List Standing → Type 0
AreFirst all done = (w : Way) → (rest : List Standing) × (on_way all w ≡ on_way done w ++ rest)
