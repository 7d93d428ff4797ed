use Rattle.std.proofs.Common.{◌≡◌, drop}
use Rattle.lp_strategy.specs.Elements.{misplaced_from}
use Rattle.lp_strategy.proofs.elements.first_misplaced.Given as goal

abbrev pub invariant-loop-number : goal.invariant-loop-number
invariant-loop-number l = misplaced_from l.graph l.domains l.number (drop l.number l.strategies) ≡ misplaced_from l.graph l.domains 0 l.strategies
