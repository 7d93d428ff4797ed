use Rattle.std.proofs.Common.{◌≡◌, length}
use Rattle.lp_pool.proofs.pool.Pool.clear.Given as goal

abbrev pub invariant-loop-self : goal.invariant-loop-self
invariant-loop-self g l = l.self.spots ≡ l.fn.self.spots

abbrev pub decreases-loop-self : goal.decreases-loop-self
decreases-loop-self g l = length l.self.items
