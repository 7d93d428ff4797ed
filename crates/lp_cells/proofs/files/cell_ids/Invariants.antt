use Rattle.std.proofs.Common.{◌≡◌, ◌++◌, drop}
use Rattle.std.specs.Prelude.{map}
use Rattle.lp_cells.proofs.files.cell_ids.Given as goal

abbrev pub invariant-loop-cell : goal.invariant-loop-cell
invariant-loop-cell l = l.ids.items ++ map (λ c. c.name) (drop l.cell-index l.cells) ≡ map (λ c. c.name) l.cells
