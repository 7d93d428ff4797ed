use Rattle.std.proofs.Common.{◌≡◌, take}
use Rattle.std.specs.Prelude.{slice_index_or}
use Rattle.lp_targets.specs.Children.{children_of}
use Rattle.lp_targets.specs.Sizes.{depth_above}
use Rattle.lp_targets.proofs.depth.depth_of.Given as goal

abbrev pub invariant-loop-target : goal.invariant-loop-target
invariant-loop-target l = l.depth ≡ depth_above (λ b. slice_index_or l.table b 0) (children_of (take l.target-index l.row))
