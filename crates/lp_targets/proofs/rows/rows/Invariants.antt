use Rattle.std.proofs.Common.{◌≡◌, map, take}
use Rattle.lp_targets.specs.Numbered.{row_in}
use Rattle.lp_targets.proofs.rows.rows.Given as goal

abbrev pub invariant-loop-module : goal.invariant-loop-module
invariant-loop-module l = l.rows ≡ map (row_in l.index.modules l.index.cells) (take l.module-index l.modules)
