-- The statement of the law of this crate (own rule).
use Rattle.std.specs.Prelude.{◌≡◌, List, None}
use Rattle.lp_model.specs.GroupsView.{GroupView}
use Rattle.lp_model.specs.LibraryView.{CellView}
use Rattle.lp_cells.specs.Cells.{IsLibrary}
use Rattle.lp_spec_design.specs.Winners.{IsIn}
use Rattle.lp_spec_cells.specs.Sound.{IsSound}

-- each cell without a reason of a library that is read is what the laws on cells at their pins ask of a cell
abbrev pub ReadCellsAreSound : Type 0
ReadCellsAreSound =
    (files : List (List GroupView)) (cells : List CellView)
    → IsLibrary files cells
    → (c : CellView) → IsIn c cells → c.unusable ≡ None → IsSound c
