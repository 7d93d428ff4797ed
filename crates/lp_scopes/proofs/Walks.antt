-- Walks by the bytes of a text, from a place on.
use Rattle.std.proofs.Common.{◌≡◌, ◌<◌, ℕ, zero, suc, ◌+◌, [], ◌∷◌, length, drop, Option, refl, ap, ◌∙◌, arith}
use Rattle.lp_spec_design.specs.Keys.{Name}
use Rattle.lp_scopes.specs.Numbered.{Spot, on_by, walk_by}

pub walk_more : (on : Spot → Option Spot) (text : Name) (i : ℕ) (a : Spot) → i < length text → walk_by on (drop i text) a ≡ on_by a (on a) (walk_by on (drop (i + 1) text))
walk_more on [] i a h = absurd (omega arith)
walk_more on (c ∷ text) zero a h = refl
walk_more on (c ∷ text) (suc i) a h =
    let e : suc (i + 1) ≡ suc i + 1 = omega arith in
    walk_more on text i a (omega arith) ∙ ap (λ n. on_by a (on a) (walk_by on (drop n (c ∷ text)))) e
