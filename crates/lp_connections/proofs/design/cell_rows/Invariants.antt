use Rattle.std.proofs.Common.{◌≡◌, map, take}
use Rattle.lp_connections.specs.Parts.{names_in}
use Rattle.lp_connections.proofs.design.cell_rows.Given as goal

abbrev pub invariant-loop-cell : goal.invariant-loop-cell
invariant-loop-cell l = l.rows.items ≡ map names_in (take l.cell-index l.cells)
