-- Lists of so many names.
use Rattle.std.proofs.Common.{◌≡◌, ℕ, zero, suc, ◌-◌, ◌<◌, arith, ap}
use Rattle.lp_spec_upf.specs.Shapes.{Needs, Any}
use Rattle.lp_spec_upf.specs.Commands.{exactly}

pub exactly_more : (n : ℕ) → 0 < n → exactly n ≡ Needs Any (exactly (n - 1))
exactly_more zero h = absurd (omega arith)
exactly_more (suc n) h = let e : n ≡ suc n - 1 = omega arith in ap (λ k. Needs Any (exactly k)) e
