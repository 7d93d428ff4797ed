use Rattle.std.proofs.Common.{◌≡◌, length, map, take}
use Rattle.lp_behaviour.specs.Signals.{level_at}
use Rattle.lp_behaviour.proofs.function.levels_of.Given as goal

abbrev pub invariant-loop-i : goal.invariant-loop-i
invariant-loop-i l = record { filled : take l.i l.values ≡ map (level_at l.cell l.levels) (take l.i l.names); room : length l.values ≡ 12 }
