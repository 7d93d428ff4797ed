use Rattle.std.proofs.Common.{◌≡◌, None, drop}
use Rattle.lp_rows.specs.Voltages.{highest_from}
use Rattle.lp_rows.proofs.states.highest.Given as goal

abbrev pub invariant-loop-state : goal.invariant-loop-state
invariant-loop-state l = highest_from l.found (drop l.state-index l.states) ≡ highest_from None l.states
