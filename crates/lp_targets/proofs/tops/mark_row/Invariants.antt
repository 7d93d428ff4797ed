use Rattle.std.proofs.Common.{take}
use Rattle.lp_targets.specs.Marks.{AddsMarks, targets_in}
use Rattle.lp_targets.proofs.tops.mark_row.Given as goal

abbrev pub invariant-loop-instance : goal.invariant-loop-instance
invariant-loop-instance l = AddsMarks l.fn.marks.items l.marks.items (targets_in (take l.instance-index l.instances))
