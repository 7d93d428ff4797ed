use Rattle.std.proofs.Common.{◌≡◌, map, take}
use Rattle.lp_layout.specs.Fed.{drives_of}
use Rattle.lp_layout.proofs.pins.drives_in.Given as goal

abbrev pub invariant-loop-cell : goal.invariant-loop-cell
invariant-loop-cell l = l.table.items ≡ map drives_of (take l.cell-index l.cells)
