-- The module instances and the cell instances of a design, in preorder by the order of statements (IEEE 1364-2005, hierarchical structures; the order is an own rule).
use Rattle.std.specs.Prelude.{ℕ, zero, suc, List, [], ◌∷◌, map, filter, Option, Some, None, is_some, flat_map}
use Rattle.lp_model.specs.NetlistView.{InstanceView, ModuleView}
use Rattle.lp_model.specs.LibraryView.{CellView}
use Rattle.lp_spec_design.specs.Keys.{Name, Path}
use Rattle.lp_spec_design.specs.Netlists.{Structure, module_named, cell_named, module_at}

-- ---- module instances

-- those of a module, by their paths
abbrev pub children_in : Structure → Path → Option ModuleView → List Path
children_in s p None = []
children_in s p (Some m) = map (λ (x : InstanceView). x.name ∷ p) (filter (λ (x : InstanceView). is_some (module_named s x.target)) m.instances)

abbrev pub children : Structure → Path → List Path
children s p = children_in s p (module_at s p)

-- an instance and those below it, down to a depth
abbrev pub below : Structure → ℕ → Path → List Path
below s zero p = []
below s (suc depth) p = p ∷ flat_map (below s depth) (children s p)

-- all of them, the top first; a design is at most 64 deep
unfoldable pub module_instances : Structure → List Path
module_instances s = below s 64 []

-- ---- cell instances

-- a cell instance, in the module instance of a path
pub record Placed : Type 0 where
  pub path : Path
  pub instance : Name

-- an instance of a module stands for the cell instances inside, an instance of a cell for itself; what names neither is refused
abbrev pub cells_of_target : (Path → List Placed) → Path → Name → Option ModuleView → Option CellView → List Placed
cells_of_target inside p x (Some m) c = inside (x ∷ p)
cells_of_target inside p x None (Some c) = record { path = p; instance = x } ∷ []
cells_of_target inside p x None None = []

abbrev pub cells_of : Structure → (Path → List Placed) → Path → InstanceView → List Placed
cells_of s inside p x = cells_of_target inside p x.name (module_named s x.target) (cell_named s x.target)

-- statement by statement, cells and module instances interleaved
abbrev pub cells_in : Structure → (Path → List Placed) → Path → Option ModuleView → List Placed
cells_in s inside p None = []
cells_in s inside p (Some m) = flat_map (cells_of s inside p) m.instances

-- the cell instances of an instance and of those below it, down to a depth
abbrev pub cells_below : Structure → ℕ → Path → List Placed
cells_below s zero p = []
cells_below s (suc depth) p = cells_in s (cells_below s depth) p (module_at s p)

-- all of them; a design is at most 64 deep
unfoldable pub cell_instances : Structure → List Placed
cell_instances s = cells_below s 64 []
