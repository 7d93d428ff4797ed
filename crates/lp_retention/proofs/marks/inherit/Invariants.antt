use Rattle.std.proofs.Common.{◌≡◌, drop}
use Rattle.lp_spec_bridge.specs.Inherited.{inherited_from}
use Rattle.lp_retention.specs.Marks.{own_mark, either_mark, reached}
use Rattle.lp_retention.proofs.marks.inherit.Given as goal

abbrev pub invariant-loop-place : goal.invariant-loop-place
invariant-loop-place l = inherited_from own_mark either_mark l.done (drop l.place l.table) (drop l.place l.instances) ≡ reached l.table l.instances
