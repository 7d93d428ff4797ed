-- The statements of the laws of this crate (own rule).
use Rattle.std.specs.Prelude.{◌≡◌, ℕ, true, List, map, None}
use Rattle.lp_model.specs.GroupsView.{GroupView}
use Rattle.lp_model.specs.LibraryView.{CellView}
use Rattle.lp_cells.specs.Cells.{IsLibrary}
use Rattle.lp_verilog.specs.Reads.{Reads}
use Rattle.lp_spec_design.specs.Netlists.{Structure}
use Rattle.lp_spec_design.specs.Winners.{IsIn}
use Rattle.lp_spec_realises.specs.ProjectNetlists.{are_apart}
use Rattle.lp_spec_agreement.specs.Faultless.{IsSoundCell}
use Rattle.lp_spec_faultless.specs.Faults.{IsReadNetlist}

-- a netlist that a text denotes has its names apart and declares what it joins and assigns, over whatever cells
abbrev pub ReadNetlistsDeclareTheirBits : Type 0
ReadNetlistsDeclareTheirBits = (text : List ℕ) (s : Structure) → Reads text s.modules → IsReadNetlist s

-- in a library that is read each cell that can be used is sound, the names of all its pins differ, and only its internal power pins are switched
abbrev pub ReadCellsHaveSoundPins : Type 0
ReadCellsHaveSoundPins =
    (files : List (List GroupView)) (cells : List CellView)
    → IsLibrary files cells
    → (c : CellView) → IsIn c cells → c.unusable ≡ None → IsSoundCell c

-- and no two cells of it have one name
abbrev pub ReadCellNamesDiffer : Type 0
ReadCellNamesDiffer = (files : List (List GroupView)) (cells : List CellView) → IsLibrary files cells → are_apart (map (λ (c : CellView). c.name) cells) ≡ true
