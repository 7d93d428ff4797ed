use Rattle.lp_order.proofs.WalkLemmas.{IsBackFrom}
use Rattle.lp_order.proofs.walk.order_of.Given as goal

abbrev pub invariant-loop-root : goal.invariant-loop-root
invariant-loop-root l = IsBackFrom l.graph l.walk l.root
