-- The statements of the laws of this crate (own rule).
use Rattle.lp_model.specs.declared.fault.refusal.Refusal.TheVariants as refusals
use Rattle.std.specs.Prelude.{◌≡◌, ℕ, List, None, length, true}
use Rattle.std.specs.List.{All}
use Rattle.lp_text.specs.Texts.{distinct}
use Rattle.lp_model.specs.GroupsView.{GroupView}
use Rattle.lp_model.specs.Agreement.{numbers_below}
use Rattle.lp_model.specs.LibraryView.{CellView, library_numbers, library_view}
use Rattle.lp_model.specs.declared.library.Library.{Library}
use Rattle.lp_model.specs.declared.fault.refusal.Refusal.{Refusal}
use Rattle.lp_behaviour.specs.Usable.{IsUsable}
use Rattle.lp_cells.specs.Cells.{IsLibrary, RefusesLibrary}

-- a library is read or refused: only want of memory comes beside
abbrev pub OneLibraryAnswer : Type 0
OneLibraryAnswer =
    (texts : List (List ℕ)) (files : List (List GroupView)) (cells : List CellView) (r : Refusal)
    → IsLibrary files cells
    → RefusesLibrary texts files r
    → r ≡ refusals.NoMemory

-- a cell without a reason is sound: its names are visible and differ, its pins have related pins of their kind that are no bias pins, its outputs have functions, each name in a function is that of an input pin or of the state, its retention pins have the actions of their class alone, and it has at most 8 power and ground pins and 240 signal pins. So each cell without a reason of a library that is read is usable in the sense of the cells' behaviour
abbrev pub UsableCellsAreUsable : Type 0
UsableCellsAreUsable =
    (names : List (List ℕ)) (files : List (List GroupView)) (library : Library)
    → distinct names ≡ true
    → numbers_below (length names) (library_numbers library) ≡ true
    → IsLibrary files (library_view names library)
    → All (λ c. c.unusable ≡ None → IsUsable c) library.cells
