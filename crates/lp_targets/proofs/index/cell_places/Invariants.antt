use Rattle.std.proofs.Common.{◌≡◌, take}
use Rattle.lp_targets.specs.Numbered.{cell_numbers}
use Rattle.lp_targets.proofs.index.cell_places.Given as goal

abbrev pub invariant-loop-cell : goal.invariant-loop-cell
invariant-loop-cell l = l.places ≡ cell_numbers (take l.cell-index l.cells)
