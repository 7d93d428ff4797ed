use Rattle.std.proofs.Common.{ℕ, ◌<◌}
use Rattle.lp_order.specs.Order.{Reaches}
use Rattle.lp_loops.proofs.looped.first_looped.Given as goal

abbrev pub invariant-loop-root : goal.invariant-loop-root
invariant-loop-root l = (b : ℕ) → b < l.root → Reaches l.graph b b → ⊥
