use Rattle.std.proofs.Common.{◌≡◌, ◌++◌, drop}
use Rattle.lp_templates.specs.Connected.{signal_row}
use Rattle.lp_templates.proofs.row.push_signals.Given as goal

abbrev pub invariant-loop-pin : goal.invariant-loop-pin
invariant-loop-pin l = l.row.items ++ signal_row l.scope l.connections (drop l.pin-index l.pins) ≡ l.fn.row.items ++ signal_row l.scope l.connections l.pins
