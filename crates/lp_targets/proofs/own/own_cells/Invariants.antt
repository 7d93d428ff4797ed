use Rattle.std.proofs.Common.{◌≡◌, map, length, take}
use Rattle.lp_targets.specs.Children.{cells_of}
use Rattle.lp_targets.proofs.own.own_cells.Given as goal

abbrev pub invariant-loop-row : goal.invariant-loop-row
invariant-loop-row l = l.own.items ≡ map (λ row. length (cells_of row)) (take l.row-index l.rows)
