use Rattle.std.proofs.Common.{◌≡◌, take}
use Rattle.lp_targets.specs.Children.{children}
use Rattle.lp_targets.proofs.order.children.Given as goal

abbrev pub invariant-loop-row : goal.invariant-loop-row
invariant-loop-row l = l.graph ≡ children (take l.row-index l.rows)
