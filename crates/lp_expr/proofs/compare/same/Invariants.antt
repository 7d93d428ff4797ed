use Rattle.std.proofs.Common.{◌≡◌, ℕ, ◌<◌}
use Rattle.std.specs.Prelude.{map}
use Rattle.lp_expr.specs.Formula.{truth}
use Rattle.lp_expr.specs.Table.{is_bit}
use Rattle.lp_expr.proofs.compare.same.Given as goal

abbrev pub invariant-loop-choice : goal.invariant-loop-choice
invariant-loop-choice l = (choice : ℕ) → choice < l.choice → truth l.a.steps (map (is_bit choice) l.front) ≡ truth l.b.steps (map (is_bit choice) l.back)
