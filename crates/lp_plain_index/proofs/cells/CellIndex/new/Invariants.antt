use Rattle.std.proofs.Common.{◌≡◌, map, take}
use Rattle.lp_plain_index.proofs.cells.CellIndex.new.Given as goal

abbrev pub invariant-loop-cell : goal.invariant-loop-cell
invariant-loop-cell l = l.places ≡ map (λ c. c.name.0) (take l.cell-index l.cells)
