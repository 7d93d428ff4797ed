use Rattle.std.proofs.Common.{take}
use Rattle.lp_targets.specs.Marks.{AddsMarks, all_targets}
use Rattle.lp_targets.proofs.tops.mark_all.Given as goal

abbrev pub invariant-loop-module : goal.invariant-loop-module
invariant-loop-module l = AddsMarks l.fn.marks.items l.marks.items (all_targets (take l.module-index l.modules))
