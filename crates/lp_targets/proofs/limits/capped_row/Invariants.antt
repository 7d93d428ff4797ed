use Rattle.std.proofs.Common.{◌≡◌, ◌+◌, min, take}
use Rattle.std.specs.Prelude.{sum_by, slice_index_or}
use Rattle.lp_targets.specs.Children.{children_of}
use Rattle.lp_targets.proofs.limits.capped_row.Given as goal

abbrev pub invariant-loop-target : goal.invariant-loop-target
invariant-loop-target l = l.total ≡ min l.fn.limit (l.fn.own + sum_by (λ b. slice_index_or l.table b 0) (children_of (take l.target-index l.row)))
