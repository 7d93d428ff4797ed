-- Which modules and cells the instances of a module are of, by their places (IEEE 1364-2005, hierarchical structures).
use Rattle.std.specs.Prelude.{ℕ, List, map, Option, Some, None}
use Rattle.lp_spec_design.specs.Graph.{some_of}
use Rattle.lp_targets.specs.declared.target.Target.{Target}
use Rattle.lp_targets.specs.declared.target.Target.TheVariants.{OfModule, OfCell}

abbrev pub module_place : Target → Option ℕ
module_place (OfModule k) = Some k
module_place (OfCell k) = None

abbrev pub children_of : List Target → List ℕ
children_of row = some_of module_place row

-- for each module the places of the modules in it
abbrev pub children : List (List Target) → List (List ℕ)
children rows = map children_of rows

abbrev pub cell_place : Target → Option ℕ
cell_place (OfModule k) = None
cell_place (OfCell k) = Some k

abbrev pub cells_of : List Target → List ℕ
cells_of row = some_of cell_place row

-- for each module the places of the cells in it
abbrev pub cell_rows : List (List Target) → List (List ℕ)
cell_rows rows = map cells_of rows
