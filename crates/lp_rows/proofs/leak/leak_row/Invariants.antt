use Rattle.std.proofs.Common.{◌≡◌, false, take}
use Rattle.std.specs.List.{list_any}
use Rattle.lp_rows.specs.Leaks.{leaks_in}
use Rattle.lp_rows.proofs.RowLemmas.{passes}
use Rattle.lp_rows.proofs.leak.leak_row.Given as goal

abbrev pub invariant-loop-row : goal.invariant-loop-row
invariant-loop-row l = record {
  counted : l.number ≡ l.row-index;
  missed : list_any (passes (λ row. leaks_in l.s row l.fn.a.0 l.fn.b.0)) (take l.row-index l.rows) ≡ false;
}
