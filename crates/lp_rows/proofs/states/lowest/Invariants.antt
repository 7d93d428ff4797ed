use Rattle.std.proofs.Common.{◌≡◌, None, drop}
use Rattle.lp_rows.specs.Voltages.{lowest_from}
use Rattle.lp_rows.proofs.states.lowest.Given as goal

abbrev pub invariant-loop-state : goal.invariant-loop-state
invariant-loop-state l = lowest_from l.found (drop l.state-index l.states) ≡ lowest_from None l.states
