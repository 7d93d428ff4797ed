-- Cells by the numbers of their names, and as they read.
use Rattle.std.specs.Prelude.{ℕ, ◌==◌, List, map, Option}
use Rattle.lp_model.specs.declared.library.Cell.{Cell}
use Rattle.lp_model.specs.LibraryView.{CellView, cell_view}
use Rattle.lp_spec_design.specs.Netlists.{first}

-- the first cell of a name
abbrev pub cell_numbered : List Cell → ℕ → Option Cell
cell_numbered cells n = first (λ (c : Cell). n == c.name.0) cells

-- the cells with the texts of their names
abbrev pub cell_views : List (List ℕ) → List Cell → List CellView
cell_views names cells = map (cell_view names) cells
