use Rattle.std.proofs.Common.{◌≡◌, ◌-◌, ◌*◌, ◌≤◌, length, take}
use Rattle.lp_pool.specs.Places.{chunk}
use Rattle.lp_pool.specs.Pool.{held}
use Rattle.lp_pool.proofs.pool.Pool.remove_chunks.Given as goal

abbrev pub invariant-loop-removed : goal.invariant-loop-removed
invariant-loop-removed g l = (l.removed ≤ l.count) × (l.self ≡ held l.fn.self.items (take (length l.fn.self.spots - l.removed * chunk) l.fn.self.spots))

abbrev pub decreases-loop-removed : goal.decreases-loop-removed
decreases-loop-removed g l = l.count - l.removed
