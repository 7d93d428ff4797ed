use Rattle.std.proofs.Common.{◌≡◌, ◌+◌, length, drop}
use Rattle.std.specs.List.{list_all, zip}
use Rattle.lp_rows.specs.Rows.{accepts, allowed, ports_from, within_in}
use Rattle.lp_rows.proofs.tuple.is_within_row.Given as goal

abbrev pub invariant-loop-origin : goal.invariant-loop-origin
invariant-loop-origin l = record {
  counted : l.number ≡ l.origin-index;
  room : l.place + length (ports_from l.number (drop l.number l.s.origins)) ≡ length l.tuple;
  rest : list_all (λ e. accepts (allowed l.s l.row e.0) e.1) (zip (ports_from l.number (drop l.number l.s.origins)) (drop l.place l.tuple)) ≡ within_in l.s l.row l.tuple;
}
