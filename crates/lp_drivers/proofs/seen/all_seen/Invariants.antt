use Rattle.std.proofs.Common.{◌≡◌, take}
use Rattle.lp_drivers.specs.Table.{seen_in}
use Rattle.lp_drivers.proofs.seen.all_seen.Given as goal

abbrev pub invariant-loop-place : goal.invariant-loop-place
invariant-loop-place l = l.seen.items ≡ seen_in l.cells l.modules (take l.place l.templates)
