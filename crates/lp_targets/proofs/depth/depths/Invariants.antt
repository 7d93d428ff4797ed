use Rattle.std.proofs.Common.{◌≡◌, length, take}
use Rattle.lp_targets.specs.Sizes.{OnRows}
use Rattle.lp_targets.proofs.Depths.{HasDepths}
use Rattle.lp_targets.proofs.depth.depths.Given as goal

abbrev pub invariant-loop-place : goal.invariant-loop-place
invariant-loop-place l = record {
  many : length l.table.items ≡ length l.rows;
  right : OnRows l.rows l.order (λ s. HasDepths s (take l.place-index l.order) l.table.items);
}
