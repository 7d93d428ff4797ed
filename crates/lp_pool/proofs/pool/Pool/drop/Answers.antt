use Rattle.std.proofs.Common.{◌≡◌, ◌-◌, ◌*◌, ◌∙◌, ap, length, arith}
use Rattle.std.proofs.lemmas.List.{length-take}
use Rattle.lp_pool.specs.Places.{chunk}
use Rattle.lp_pool.specs.Pool.{Held}
use Rattle.lp_pool.proofs.PoolLemmas.{spots_count, nil_of}
use Rattle.lp_pool.proofs.pool.Pool.drop.Goals as goal

pub remove_chunks-requires : goal.remove_chunks-requires
remove_chunks-requires g c =
    omega (arith, ap (λ (p : Held _). length p.items) c.clear.ensures, spots_count _ _ _ _ c.self.invariant, ap (λ (p : Held _). length p.spots) c.self.view_is, c.len-count.ensures, c.self.inside.chunks.ok.0)

gone : (g : _) (c : goal.After-self-2 g) → length c.self-2.inside.records.spots ≡ 0
gone g c =
    let kept = length c.clear.new.self.spots - c.len-count.result * chunk in
    ap (λ (p : Held _). length p.spots) (c.self-2.view_is ∙ c.remove_chunks.ensures)
    ∙ omega (arith, length-take kept c.clear.new.self.spots, spots_count _ _ _ _ c.self.invariant, ap (λ (p : Held _). length p.spots) c.self.view_is, c.len-count.ensures, c.self.inside.chunks.ok.0)

pub destroy_empty-requires : goal.destroy_empty-requires
destroy_empty-requires g c = omega (arith, gone g c, spots_count _ _ _ _ c.self-2.invariant, c.self-2.inside.chunks.ok.0)

pub end-requires : goal.end-requires
end-requires g c = (nil_of _ (gone g c.before), ap (λ (p : Held _). p.items) (c.self-2.view_is ∙ c.remove_chunks.ensures) ∙ ap (λ (p : Held _). p.items) c.clear.ensures)
