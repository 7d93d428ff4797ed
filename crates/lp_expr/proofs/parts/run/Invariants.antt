use Rattle.std.proofs.Common.{◌≡◌, drop}
use Rattle.lp_expr.specs.Machine.{read_in, start}
use Rattle.lp_expr.proofs.parts.run.Given as goal

abbrev pub invariant-loop-at : goal.invariant-loop-at
invariant-loop-at l = read_in l.dialect l.at (drop l.at l.text) l.reader ≡ read_in l.dialect 0 l.text start
