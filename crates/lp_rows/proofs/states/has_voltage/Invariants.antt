use Rattle.std.proofs.Common.{◌≡◌, drop}
use Rattle.std.specs.List.{list_any}
use Rattle.lp_rows.specs.Rows.{is_on_at}
use Rattle.lp_rows.proofs.states.has_voltage.Given as goal

abbrev pub invariant-loop-state : goal.invariant-loop-state
invariant-loop-state l = list_any (is_on_at l.voltage) (drop l.state-index l.states) ≡ list_any (is_on_at l.voltage) l.states
