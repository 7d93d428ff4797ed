use Rattle.std.proofs.Common.{◌≡◌, drop}
use Rattle.lp_choice.specs.Least.{least_from}
use Rattle.lp_choice.proofs.least.least.Given as goal

abbrev pub invariant-loop-place : goal.invariant-loop-place
invariant-loop-place l = l.best ≡ least_from l.place (drop l.place l.areas)
