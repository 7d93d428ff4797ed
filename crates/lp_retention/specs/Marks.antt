-- Which instances and cell instances a list of elements names, by number (own rule).
use Rattle.std.specs.Prelude.{ℕ, Bool, true, false, ◌||◌, List, [], ◌∷◌, Option, Some, None, replicate, slice_set}
use Rattle.lp_model.specs.declared.graph.Inst.{Inst}
use Rattle.lp_model.specs.declared.intent.Element.{Element}
use Rattle.lp_model.specs.declared.intent.Element.TheVariants.{Inst as OfInst, Leaf as OfLeaf, Port as OfPort, Bit as OfBit}
use Rattle.lp_spec_bridge.specs.Inherited.{inherited}

abbrev pub instance_of : Element → Option ℕ
instance_of (OfInst i) = Some i.0
instance_of (OfLeaf l) = None
instance_of (OfPort i n) = None
instance_of (OfBit k) = None

abbrev pub cell_of : Element → Option ℕ
cell_of (OfInst i) = None
cell_of (OfLeaf l) = Some l.0
cell_of (OfPort i n) = None
cell_of (OfBit k) = None

abbrev pub marked : List Bool → Option ℕ → List Bool
marked table None = table
marked table (Some k) = slice_set table k true

abbrev pub mark_all : (Element → Option ℕ) → List Bool → List Element → List Bool
mark_all place table [] = table
mark_all place table (e ∷ es) = mark_all place (marked table (place e)) es

-- of so many
abbrev pub marks : (Element → Option ℕ) → ℕ → List Element → List Bool
marks place n es = mark_all place (replicate n false) es

abbrev pub own_mark : Bool → Bool
own_mark own = own

abbrev pub either_mark : Bool → Bool → Bool
either_mark own above = own || above

-- an instance is reached where it is marked, or one above it
abbrev pub reached : List Bool → List Inst → List Bool
reached table rows = inherited own_mark either_mark table rows
