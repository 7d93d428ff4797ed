use Rattle.std.proofs.Common.{◌≡◌, map, take}
use Rattle.lp_layout.specs.Shapes.{held_shape}
use Rattle.lp_layout.proofs.shapes.shapes_of.Given as goal

abbrev pub invariant-loop-cell : goal.invariant-loop-cell
invariant-loop-cell l = l.shapes ≡ map held_shape (take l.cell-index l.cells)
