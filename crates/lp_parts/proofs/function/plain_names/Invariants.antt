use Rattle.std.proofs.Common.{◌≡◌, ◌≤◌, ◌++◌, drop}
use Rattle.std.specs.Prelude.{map, vec_len}
use Rattle.std.specs.List.{filter}
use Rattle.lp_parts.specs.Functions.{is_plain}
use Rattle.lp_parts.proofs.function.plain_names.Given as goal

abbrev pub invariant-loop-pg : goal.invariant-loop-pg
invariant-loop-pg l = record {
  same : l.ids.items ++ map (λ p. p.name) (filter (λ p. is_plain p.kind) (drop l.pg-index l.pgs)) ≡ map (λ p. p.name) (filter (λ p. is_plain p.kind) l.pgs);
  few : vec_len l.ids ≤ l.pg-index;
}
