use Rattle.std.proofs.Common.{◌≡◌, take}
use Rattle.lp_connections.specs.Parts.{pin_names}
use Rattle.lp_connections.proofs.cell_names.pin_names.Given as goal

abbrev pub invariant-loop-pin : goal.invariant-loop-pin
invariant-loop-pin l = l.numbers.items ≡ pin_names (take l.pin-index l.pins)
