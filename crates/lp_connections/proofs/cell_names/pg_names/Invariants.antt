use Rattle.std.proofs.Common.{◌≡◌, take}
use Rattle.lp_connections.specs.Parts.{pg_names}
use Rattle.lp_connections.proofs.cell_names.pg_names.Given as goal

abbrev pub invariant-loop-pg : goal.invariant-loop-pg
invariant-loop-pg l = l.numbers.items ≡ pg_names (take l.pg-index l.pgs)
