use Rattle.std.proofs.Common.{◌≡◌, drop}
use Rattle.lp_retention.specs.Best.{tie_from}
use Rattle.lp_retention.proofs.best.first_tie.Given as goal

abbrev pub invariant-loop-place : goal.invariant-loop-place
invariant-loop-place l = tie_from l.place (drop l.place l.bests) ≡ tie_from 0 l.bests
