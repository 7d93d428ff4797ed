use Rattle.std.proofs.Common.{◌≡◌, ◌++◌, drop}
use Rattle.lp_targets.specs.Children.{children_of}
use Rattle.lp_targets.proofs.order.children_of.Given as goal

abbrev pub invariant-loop-target : goal.invariant-loop-target
invariant-loop-target l = l.places.items ++ children_of (drop l.target-index l.row) ≡ children_of l.row
