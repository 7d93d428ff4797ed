use Rattle.std.proofs.Common.{◌≡◌, length, map, take}
use Rattle.lp_behaviour.specs.Signals.{known}
use Rattle.lp_choice.specs.declared.wires.Wire.{Wire}
use Rattle.lp_choice.specs.Wires.{level}
use Rattle.lp_choice.proofs.wires.levels_of.Given as goal

abbrev pub invariant-loop-i : goal.invariant-loop-i
invariant-loop-i l = record { filled : take l.i l.levels ≡ map (λ (w : Wire). known (level l.choice w)) (take l.i l.wires); room : length l.levels ≡ 12 }
