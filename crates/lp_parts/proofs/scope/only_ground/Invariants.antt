use Rattle.std.proofs.Common.{◌≡◌, drop}
use Rattle.std.specs.Prelude.{map}
use Rattle.lp_parts.specs.Pins.{is_primary_ground, only_place}
use Rattle.lp_parts.proofs.Places.{only_from}
use Rattle.lp_parts.proofs.scope.only_ground.Given as goal

abbrev pub invariant-loop-place : goal.invariant-loop-place
invariant-loop-place l = only_from l.place is_primary_ground l.found (map (λ p. p.kind) (drop l.place l.pgs)) ≡ only_place is_primary_ground (map (λ p. p.kind) l.pgs)
