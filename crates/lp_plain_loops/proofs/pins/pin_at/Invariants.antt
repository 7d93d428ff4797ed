use Rattle.std.proofs.Common.{◌≡◌, drop}
use Rattle.lp_plain_loops.specs.Numbered.{pin_at}
use Rattle.lp_plain_loops.proofs.pins.pin_at.Given as goal

abbrev pub invariant-loop-pin : goal.invariant-loop-pin
invariant-loop-pin l = pin_at (drop l.pin-index l.pins) l.name.0 ≡ pin_at l.pins l.name.0
