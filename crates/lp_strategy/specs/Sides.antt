-- By the domain of each instance: which sides and which registers an element of a strategy names (own rule).
use Rattle.std.specs.Prelude.{ℕ, ◌==◌, Bool, false, not, ◌&&◌, ◌||◌, List, Option, Some, None, slice_get, slice_index_or}
use Rattle.lp_model.specs.declared.graph.CellShape.{CellShape}
use Rattle.lp_model.specs.declared.graph.Graph.{Graph}
use Rattle.lp_model.specs.declared.graph.Inst.{Inst}
use Rattle.lp_model.specs.declared.graph.Leaf.{Leaf as LeafRow}
use Rattle.lp_model.specs.declared.graph.Node.{Node as NodeRow}
use Rattle.lp_model.specs.declared.ids.InstId.{InstId}
use Rattle.lp_model.specs.declared.intent.Element.{Element}
use Rattle.lp_model.specs.declared.intent.Element.TheVariants.{Inst as OfInst, Leaf as OfLeaf, Port as OfPort, Bit as OfBit}
use Rattle.lp_model.specs.declared.intent.StrategyKind.{StrategyKind}
use Rattle.lp_model.specs.declared.intent.StrategyKind.TheVariants.{Retention}

-- ---- sides

-- an instance by its number, and a domain
abbrev pub is_of : List ℕ → ℕ → ℕ → Bool
is_of domains d k = slice_index_or domains k 0 == d

-- domains meet at the top, which has one side, and at an instance of another domain than the one in which it stands, which has two
abbrev pub has_side_in : List ℕ → ℕ → ℕ → Option InstId → Bool
has_side_in domains d k None = is_of domains d k
has_side_in domains d k (Some parent) = not (slice_index_or domains k 0 == slice_index_or domains parent.0 0) && (is_of domains d k || is_of domains d parent.0)

-- a number of no instance means the top
abbrev pub has_side_of : List ℕ → ℕ → ℕ → Option Inst → Bool
has_side_of domains d k None = is_of domains d 0
has_side_of domains d k (Some row) = has_side_in domains d k row.parent

abbrev pub has_side_at : List Inst → List ℕ → ℕ → ℕ → Bool
has_side_at rows domains d k = has_side_of domains d k (slice_get rows k)

abbrev pub has_side_by : List Inst → List ℕ → ℕ → Option NodeRow → Bool
has_side_by rows domains d None = false
has_side_by rows domains d (Some row) = has_side_at rows domains d row.inst.0

-- the side of the instance in which a net bit lies
abbrev pub has_side_around : Graph → List ℕ → ℕ → ℕ → Bool
has_side_around g domains d k = has_side_by g.instances domains d (slice_get g.nodes k)

-- ---- registers

abbrev pub has_state_by : Option CellShape → Bool
has_state_by None = false
has_state_by (Some c) = c.state

abbrev pub has_state_in : List CellShape → ℕ → Bool
has_state_in shapes k = has_state_by (slice_get shapes k)

abbrev pub is_register_by : List CellShape → List ℕ → ℕ → Option LeafRow → Bool
is_register_by shapes domains d None = false
is_register_by shapes domains d (Some row) = is_of domains d row.inst.0 && has_state_in shapes row.cell.0

abbrev pub is_register_of : Graph → List ℕ → ℕ → ℕ → Bool
is_register_of g domains d k = is_register_by g.shapes domains d (slice_get g.leaves k)

-- ---- elements

abbrev pub names_side_by : Graph → List ℕ → ℕ → Element → Bool
names_side_by g domains d (OfInst i) = has_side_at g.instances domains d i.0
names_side_by g domains d (OfLeaf l) = false
names_side_by g domains d (OfPort i n) = has_side_at g.instances domains d i.0
names_side_by g domains d (OfBit k) = has_side_around g domains d k.0

abbrev pub names_register_by : Graph → List ℕ → ℕ → Element → Bool
names_register_by g domains d (OfInst i) = is_of domains d i.0
names_register_by g domains d (OfLeaf l) = is_register_of g domains d l.0
names_register_by g domains d (OfPort i n) = false
names_register_by g domains d (OfBit k) = false

abbrev pub is_placed_by : Graph → List ℕ → StrategyKind → ℕ → Element → Bool
is_placed_by g domains Retention d e = names_register_by g domains d e
is_placed_by g domains kind d e = names_side_by g domains d e
