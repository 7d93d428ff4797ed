use Rattle.std.proofs.Common.{◌≡◌, map, take}
use Rattle.lp_choice.specs.Wires.{named_wire}
use Rattle.lp_choice.proofs.functions.named_wires.Given as goal

abbrev pub invariant-loop-name : goal.invariant-loop-name
invariant-loop-name l = l.wires.items ≡ map (named_wire l.names l.keys) (take l.name-index l.list)
