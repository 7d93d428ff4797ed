use Rattle.std.proofs.Common.{◌≡◌, ◌+◌, ◌-◌, ◌*◌, ◌≤◌, length, take}
use Rattle.lp_pool.specs.Places.{chunk}
use Rattle.lp_pool.proofs.pool.Pool.reserve.Given as goal

abbrev pub invariant-loop-added : goal.invariant-loop-added
invariant-loop-added g l =
    (l.added ≤ l.count) × (l.self.items ≡ l.fn.self.items) × (take (length l.fn.self.spots) l.self.spots ≡ l.fn.self.spots)
    × (length l.self.spots ≡ length l.fn.self.spots + l.added * chunk)

abbrev pub decreases-loop-added : goal.decreases-loop-added
decreases-loop-added g l = l.count - l.added
