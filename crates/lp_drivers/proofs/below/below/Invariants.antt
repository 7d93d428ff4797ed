use Rattle.std.proofs.Common.{◌≡◌, drop}
use Rattle.lp_spec_drivers.specs.Counts.{found}
use Rattle.lp_drivers.specs.Table.{twice_by}
use Rattle.lp_drivers.proofs.below.below.Given as goal

abbrev pub invariant-loop-place : goal.invariant-loop-place
invariant-loop-place l = found (twice_by l.seen l.table) (drop l.place l.template.statements) ≡ found (twice_by l.seen l.table) l.template.statements
