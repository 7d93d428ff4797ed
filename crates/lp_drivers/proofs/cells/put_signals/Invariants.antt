use Rattle.std.proofs.Common.{◌≡◌, ◌++◌, map, take}
use Rattle.lp_drivers.specs.Cells.{is_output}
use Rattle.lp_drivers.proofs.cells.put_signals.Given as goal

abbrev pub invariant-loop-pin : goal.invariant-loop-pin
invariant-loop-pin l = l.row ≡ l.initial.row ++ map (λ q. is_output q.direction) (take l.pin-index l.pins)
