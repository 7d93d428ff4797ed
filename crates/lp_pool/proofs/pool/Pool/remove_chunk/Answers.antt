use Rattle.std.proofs.Common.{◌+◌, ◌≤◌, sym, subst, length}
use Rattle.lp_pool.specs.Places.{chunk}
use Rattle.lp_pool.specs.Pool.{Held, IsPool, bases}
use Rattle.lp_pool.specs.Places.{spots_of}
use Rattle.lp_pool.proofs.PoolLemmas.{last_slots, front_holds, removed}
use Rattle.lp_pool.proofs.pool.Pool.remove_chunk.Goals as goal

pub cut-records-requires : goal.cut-records-requires
cut-records-requires g c =
    let l = subst (λ (p : Held _). length p.items + chunk ≤ length p.spots) (sym c.self.view_is) c.requires in
    let pool = subst (λ cs. IsPool cs c.self.inside.len c.self.inside.records.items c.self.inside.records.spots) c.take_last-chunk.ensures.items c.self.invariant in
    (spots_of (bases c.take_last-chunk.new.self.items), last_slots _ _ _ _ _ pool, front_holds _ _ _ _ _ pool l)

pub invariant_of-self : goal.invariant_of-self
invariant_of-self g c =
    let l = subst (λ (p : Held _). length p.items + chunk ≤ length p.spots) (sym c.self.view_is) c.requires in
    let pool = subst (λ cs. IsPool cs c.self.inside.len c.self.inside.records.items c.self.inside.records.spots) c.take_last-chunk.ensures.items c.self.invariant in
    rw (c.cut-records.ensures.kept.1) (removed _ _ _ _ _ pool l _ c.cut-records.ensures.kept.0)
