use Rattle.std.proofs.Common.{arith}
use Rattle.lp_pool.proofs.pool.Pool.reserve.Goals as goal

pub add_chunk-requires : goal.add_chunk-requires
add_chunk-requires g c = omega (arith, c.loop-added.invariant.3, c.if-count-slots.false, c.slots.ensures.count, c.loop-added-test.true)
