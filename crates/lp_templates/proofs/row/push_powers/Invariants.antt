use Rattle.std.proofs.Common.{◌≡◌, ◌++◌, drop}
use Rattle.lp_templates.specs.Connected.{power_row}
use Rattle.lp_templates.proofs.row.push_powers.Given as goal

abbrev pub invariant-loop-pg : goal.invariant-loop-pg
invariant-loop-pg l = l.row.items ++ power_row l.scope l.connections (drop l.pg-index l.pgs) ≡ l.fn.row.items ++ power_row l.scope l.connections l.pgs
