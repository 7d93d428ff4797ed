use Rattle.std.proofs.Common.{◌≡◌, length, map, take}
use Rattle.lp_plain_cells.specs.Rails.{value_named}
use Rattle.lp_plain_cells.proofs.down.levels_of.Given as goal

abbrev pub invariant-loop-i : goal.invariant-loop-i
invariant-loop-i l = record { filled : take l.i l.levels ≡ map (value_named l.names l.cell l.on.power l.on.gnd) (take l.i l.variables); room : length l.levels ≡ 12 }
