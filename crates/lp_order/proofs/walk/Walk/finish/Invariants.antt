use Rattle.lp_order.specs.Walk.{steps_left}
use Rattle.lp_order.proofs.WalkLemmas.{IsUnderway}
use Rattle.lp_order.proofs.walk.Walk.finish.Given as goal

abbrev pub invariant-loop-top : goal.invariant-loop-top
invariant-loop-top l = IsUnderway l.graph l.fn.self l.self l.root

abbrev pub decreases-loop-top : goal.decreases-loop-top
decreases-loop-top l = steps_left l.self
