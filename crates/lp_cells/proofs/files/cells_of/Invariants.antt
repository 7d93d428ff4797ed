use Rattle.std.proofs.Common.{◌≡◌, ◌++◌, drop, length, true}
use Rattle.std.specs.Prelude.{map}
use Rattle.std.specs.List.{flat_map}
use Rattle.lp_model.specs.Agreement.{numbers_below}
use Rattle.lp_model.specs.GroupsView.{groups_view}
use Rattle.lp_model.specs.LibraryView.{cell_numbers, cell_view}
use Rattle.lp_cells.specs.Cells.{cells_of}
use Rattle.lp_cells.proofs.files.cells_of.Given as goal

abbrev pub invariant-loop-file : goal.invariant-loop-file
invariant-loop-file l = record {
  same : map (cell_view l.names) l.out ++ cells_of (map (groups_view l.names) (drop l.file-index l.files)) ≡ cells_of (map (groups_view l.names) l.files);
  below : numbers_below (length l.names) (flat_map cell_numbers l.out) ≡ true;
}
