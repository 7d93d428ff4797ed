use Rattle.std.proofs.Common.{arith}
use Rattle.lp_pool.proofs.PoolLemmas.{spots_count}
use Rattle.lp_pool.proofs.pool.Pool.slots.Goals as goal

pub overflow_mul-result : goal.overflow_mul-result
overflow_mul-result g c = record { fits = omega (arith, spots_count _ _ _ _ c.self.invariant, c.self.invariant.small, c.self.inside.chunks.ok.0, c.len.ensures) }

pub returns : goal.returns
returns g c = rw (← c.self.view_is) (record {
  count = omega (arith, spots_count _ _ _ _ c.self.invariant, c.self.inside.chunks.ok.0, c.len.ensures);
  enough = omega (arith, spots_count _ _ _ _ c.self.invariant, c.self.invariant.within, c.self.invariant.counted, c.self.inside.chunks.ok.0, c.len.ensures);
})
