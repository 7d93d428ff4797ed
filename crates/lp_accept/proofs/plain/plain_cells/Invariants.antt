use Rattle.std.proofs.Common.{◌≡◌, ◌++◌, drop}
use Rattle.std.specs.Prelude.{map}
use Rattle.lp_model.specs.LibraryView.{cell_view}
use Rattle.lp_spec_plain.specs.Cells.{loses_with_supply}
use Rattle.lp_accept.proofs.plain.plain_cells.Given as goal

abbrev pub invariant-loop-cell : goal.invariant-loop-cell
invariant-loop-cell l = l.plain.items ++ map (λ c. loses_with_supply (cell_view l.names c)) (drop l.cell-index l.cells) ≡ map (λ c. loses_with_supply (cell_view l.names c)) l.cells
