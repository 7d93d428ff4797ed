use Rattle.std.proofs.Common.{sym, subst, ◌<◌, length, arith}
use Rattle.lp_pool.specs.Places.{IsSpot}
use Rattle.lp_pool.specs.Pool.{Held}
use Rattle.lp_pool.proofs.PoolLemmas.{in_chunks, is_spot}
use Rattle.lp_pool.proofs.pool.Pool.base_at.Goals as goal

pub index-requires : goal.index-requires
index-requires g c =
    let l = subst (λ (p : Held _). c.args.place < length p.spots) (sym c.self.view_is) c.requires in
    omega (arith, in_chunks _ _ _ _ c.self.invariant c.args.place l, c.self.inside.chunks.ok.0)

pub returns : goal.returns
returns g c =
    let l = subst (λ (p : Held _). c.args.place < length p.spots) (sym c.self.view_is) c.requires in
    subst (λ (p : Held _). IsSpot p.spots c.args.place c.index.result.now.base.ptr) c.self.view_is (is_spot _ _ _ _ c.self.invariant c.args.place l _ c.index.ensures)
