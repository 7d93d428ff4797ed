use Rattle.std.proofs.Common.{◌≡◌, ◌++◌, drop, length, true}
use Rattle.std.specs.Prelude.{map}
use Rattle.std.specs.List.{flat_map}
use Rattle.lp_model.specs.Agreement.{numbers_below}
use Rattle.lp_model.specs.GroupsView.{group_view}
use Rattle.lp_model.specs.LibraryView.{cell_numbers, cell_view}
use Rattle.lp_cells.specs.Cells.{cells_from, cells_in}
use Rattle.lp_cells.proofs.files.push_cells.Given as goal

abbrev pub invariant-loop-place : goal.invariant-loop-place
invariant-loop-place l = record {
  same : map (cell_view l.names) l.out ++ cells_from (map (group_view l.names) l.all) l.place (map (group_view l.names) (drop l.place l.all)) ≡ map (cell_view l.names) l.fn.out ++ cells_in (map (group_view l.names) l.all);
  below : numbers_below (length l.names) (flat_map cell_numbers l.out) ≡ true;
}
