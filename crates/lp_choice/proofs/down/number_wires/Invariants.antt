use Rattle.std.proofs.Common.{◌≡◌, map, take}
use Rattle.lp_choice.specs.Wires.{number_wire}
use Rattle.lp_choice.proofs.down.number_wires.Given as goal

abbrev pub invariant-loop-key : goal.invariant-loop-key
invariant-loop-key l = l.wires.items ≡ map (number_wire l.keys) (take l.key-index l.list)
