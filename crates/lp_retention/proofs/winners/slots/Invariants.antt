use Rattle.std.proofs.Common.{◌≡◌, ◌++◌, map, drop}
use Rattle.lp_retention.specs.Best.{won}
use Rattle.lp_retention.specs.Claims.{number_in}
use Rattle.lp_retention.proofs.winners.slots.Given as goal

abbrev pub invariant-loop-best : goal.invariant-loop-best
invariant-loop-best l = map number_in l.slots ++ map won (drop l.best-index l.bests) ≡ map won l.bests
