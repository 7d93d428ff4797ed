use Rattle.std.proofs.Common.{◌≡◌, false, take}
use Rattle.std.specs.List.{list_any}
use Rattle.lp_rows.specs.Rows.{within_in}
use Rattle.lp_rows.proofs.RowLemmas.{passes}
use Rattle.lp_rows.proofs.tuple.within.Given as goal

abbrev pub invariant-loop-row : goal.invariant-loop-row
invariant-loop-row l = list_any (passes (λ row. within_in l.s row l.tuple)) (take l.row-index l.rows) ≡ false
