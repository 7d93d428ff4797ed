use Rattle.std.proofs.Common.{◌≡◌, drop}
use Rattle.lp_spec_faults.specs.Modules.{is_backup}
use Rattle.lp_connections.specs.Numbered.{has_kind}
use Rattle.lp_connections.proofs.cells.has_backup.Given as goal

abbrev pub invariant-loop-pg : goal.invariant-loop-pg
invariant-loop-pg l = has_kind is_backup (drop l.pg-index l.pgs) ≡ has_kind is_backup l.pgs
