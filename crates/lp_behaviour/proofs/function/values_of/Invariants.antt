use Rattle.std.proofs.Common.{◌≡◌, length, map, take}
use Rattle.lp_behaviour.specs.Signals.{signal_value}
use Rattle.lp_behaviour.proofs.function.values_of.Given as goal

abbrev pub invariant-loop-i : goal.invariant-loop-i
invariant-loop-i l = record { filled : take l.i l.values ≡ map (signal_value l.cell l.pins l.bit) (take l.i l.names); room : length l.values ≡ 12 }
