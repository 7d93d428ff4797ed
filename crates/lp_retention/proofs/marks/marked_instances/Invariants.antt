use Rattle.std.proofs.Common.{◌≡◌, drop}
use Rattle.lp_retention.specs.Marks.{instance_of, mark_all, marks}
use Rattle.lp_retention.proofs.marks.marked_instances.Given as goal

abbrev pub invariant-loop-element : goal.invariant-loop-element
invariant-loop-element l = mark_all instance_of l.table.items (drop l.element-index l.elements) ≡ marks instance_of l.count l.elements
