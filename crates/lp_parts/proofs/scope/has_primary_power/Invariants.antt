use Rattle.std.proofs.Common.{◌≡◌, drop}
use Rattle.std.specs.Prelude.{map}
use Rattle.std.specs.List.{list_any}
use Rattle.lp_parts.specs.Pins.{is_primary_power}
use Rattle.lp_parts.proofs.scope.has_primary_power.Given as goal

abbrev pub invariant-loop-pg : goal.invariant-loop-pg
invariant-loop-pg l = list_any is_primary_power (map (λ p. p.kind) (drop l.pg-index l.pgs)) ≡ list_any is_primary_power (map (λ p. p.kind) l.pgs)
