use Rattle.std.proofs.Common.{◌≡◌, ℕ, ◌<◌}
use Rattle.std.specs.Prelude.{bit_and}
use Rattle.lp_expr.specs.Places.{value_at}
use Rattle.lp_expr.proofs.evaluate.all_agree.Given as goal

abbrev pub invariant-loop-place : goal.invariant-loop-place
invariant-loop-place l = (place : ℕ) → place < l.place → bit_and place l.fixed.mask ≡ l.fixed.ones → value_at l.e place ≡ l.first
