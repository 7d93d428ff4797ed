use Rattle.std.proofs.Common.{◌≡◌, ◌+◌, ◌≤◌, drop}
use Rattle.lp_targets.specs.Marks.{count_free}
use Rattle.lp_targets.proofs.tops.count_free.Given as goal

abbrev pub invariant-loop-module : goal.invariant-loop-module
invariant-loop-module l = record {
  counted : l.count + count_free l.marks (drop l.module-index l.modules) ≡ count_free l.marks l.modules;
  few : l.count ≤ l.module-index;
}
