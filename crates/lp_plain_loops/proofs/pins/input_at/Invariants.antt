use Rattle.std.proofs.Common.{◌≡◌, drop}
use Rattle.lp_plain_loops.specs.Numbered.{input_at}
use Rattle.lp_plain_loops.proofs.pins.input_at.Given as goal

abbrev pub invariant-loop-pin : goal.invariant-loop-pin
invariant-loop-pin l = input_at (drop l.pin-index l.pins) l.name.0 ≡ input_at l.pins l.name.0
