use Rattle.std.proofs.Common.{◌≡◌, ◌++◌, drop}
use Rattle.std.specs.Prelude.{map}
use Rattle.lp_cells.proofs.judge.push_pg_names.Given as goal

abbrev pub invariant-loop-pg : goal.invariant-loop-pg
invariant-loop-pg l = l.ids.items ++ map (λ p. p.name) (drop l.pg-index l.pgs) ≡ l.fn.ids.items ++ map (λ p. p.name) l.pgs
