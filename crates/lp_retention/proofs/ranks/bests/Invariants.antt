use Rattle.std.proofs.Common.{◌≡◌, drop}
use Rattle.lp_retention.specs.Ranks.{bests_from}
use Rattle.lp_retention.proofs.ranks.bests.Given as goal

abbrev pub invariant-loop-number : goal.invariant-loop-number
invariant-loop-number l = l.bests ≡ bests_from l.graph l.domains l.number (drop l.number l.strategies)
