use Rattle.std.proofs.Common.{◌≡◌, drop}
use Rattle.lp_retention.specs.Marks.{cell_of, mark_all, marks}
use Rattle.lp_retention.proofs.marks.marked_cells.Given as goal

abbrev pub invariant-loop-element : goal.invariant-loop-element
invariant-loop-element l = mark_all cell_of l.table.items (drop l.element-index l.elements) ≡ marks cell_of l.count l.elements
