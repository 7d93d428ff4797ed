use Rattle.std.proofs.Common.{◌≡◌, ◌≤◌, ◌++◌, drop}
use Rattle.std.specs.Prelude.{map}
use Rattle.lp_parts.specs.Functions.{down_steps}
use Rattle.lp_parts.proofs.function.down_steps.Given as goal

abbrev pub invariant-loop-pg : goal.invariant-loop-pg
invariant-loop-pg l = record {
  steps : l.steps.items ++ down_steps l.before (map (λ p. p.kind) (drop l.pg-index l.pgs)) ≡ down_steps 0 (map (λ p. p.kind) l.pgs);
  few : l.before ≤ l.pg-index;
}
