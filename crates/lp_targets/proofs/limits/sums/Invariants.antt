use Rattle.std.proofs.Common.{◌≡◌, ℕ, length, take}
use Rattle.lp_model.specs.NetlistView.{ModuleView}
use Rattle.lp_targets.specs.Sizes.{OnRows, AreOwn}
use Rattle.lp_targets.proofs.Summed.{HasSums}
use Rattle.lp_targets.proofs.limits.sums.Given as goal

abbrev pub invariant-loop-place : goal.invariant-loop-place
invariant-loop-place l = record {
  many : length l.table.items ≡ length l.rows;
  right : OnRows l.rows l.order (λ s. (each : ModuleView → ℕ) → AreOwn s each l.fn.limit l.own → HasSums s each l.fn.limit (take l.place-index l.order) l.table.items);
}
