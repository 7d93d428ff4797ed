use Rattle.std.proofs.Common.{◌+◌, ◌^◌, sym, subst, ◌<◌, length}
use Rattle.lp_pool.specs.Places.{chunk}
use Rattle.lp_pool.specs.Pool.{Held}
use Rattle.lp_pool.proofs.PoolLemmas.{added}
use Rattle.lp_pool.proofs.pool.Pool.add_chunk.Goals as goal

pub invariant_of-self-2 : goal.invariant_of-self-2
invariant_of-self-2 g c =
    let l = subst (λ (p : Held _). length p.spots + chunk < 2 ^ 64) (sym c.self.view_is) c.requires in
    rw (c.push_reserved.ensures.items, c.reserve.ensures.items, c.join.ensures.0, c.join.ensures.1, c.in_ok-chunk.ensures.0) (added _ c.in_ok-chunk.chunk _ _ _ c.self.invariant l)
