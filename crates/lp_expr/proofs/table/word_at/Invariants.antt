use Rattle.std.proofs.Common.{◌≡◌, ℕ, ◌+◌, ◌*◌, ◌<◌, [], drop}
use Rattle.lp_expr.specs.Formula.{run, digits}
use Rattle.lp_expr.specs.Table.{lane}
use Rattle.lp_expr.proofs.table.word_at.Given as goal

abbrev pub invariant-loop-step : goal.invariant-loop-step
invariant-loop-step l =
    (place : ℕ) → place < 64 → run (digits l.count (l.number * 64 + place)) (drop l.step-index l.steps) (lane place l.stack) ≡ run (digits l.count (l.number * 64 + place)) l.steps []
