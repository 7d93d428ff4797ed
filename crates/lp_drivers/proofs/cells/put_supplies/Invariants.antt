use Rattle.std.proofs.Common.{◌≡◌, ◌++◌, map, take}
use Rattle.std.specs.Prelude.{is_some}
use Rattle.lp_drivers.proofs.cells.put_supplies.Given as goal

abbrev pub invariant-loop-pin : goal.invariant-loop-pin
invariant-loop-pin l = l.row ≡ l.initial.row ++ map (λ g. is_some g.switched) (take l.pin-index l.pins)
