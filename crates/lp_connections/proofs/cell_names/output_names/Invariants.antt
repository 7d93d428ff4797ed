use Rattle.std.proofs.Common.{◌≡◌, ◌++◌, drop}
use Rattle.lp_connections.specs.Parts.{output_names}
use Rattle.lp_connections.proofs.cell_names.output_names.Given as goal

abbrev pub invariant-loop-pin : goal.invariant-loop-pin
invariant-loop-pin l = l.numbers.items ++ output_names (drop l.pin-index l.pins) ≡ output_names l.pins
