use Rattle.std.proofs.Common.{◌≡◌, map, take}
use Rattle.lp_drivers.specs.Cells.{pins_driving}
use Rattle.lp_drivers.proofs.cells.all_driving.Given as goal

abbrev pub invariant-loop-cell : goal.invariant-loop-cell
invariant-loop-cell l = l.rows ≡ map pins_driving (take l.cell-index l.library.cells)
