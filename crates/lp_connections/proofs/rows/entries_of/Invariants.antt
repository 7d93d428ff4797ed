use Rattle.std.proofs.Common.{◌≡◌, ◌++◌, drop}
use Rattle.lp_connections.specs.Rows.{entries_from}
use Rattle.lp_connections.proofs.rows.entries_of.Given as goal

abbrev pub invariant-loop-place : goal.invariant-loop-place
invariant-loop-place l = l.entries.items ++ entries_from l.place (drop l.place l.numbers) ≡ entries_from 0 l.numbers
