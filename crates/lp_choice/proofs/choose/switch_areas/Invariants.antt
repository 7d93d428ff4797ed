use Rattle.std.proofs.Common.{◌≡◌, map, take}
use Rattle.lp_choice.specs.Chosen.{switch_area}
use Rattle.lp_choice.proofs.choose.switch_areas.Given as goal

abbrev pub invariant-loop-cell : goal.invariant-loop-cell
invariant-loop-cell l = l.areas.items ≡ map (switch_area l.names l.need) (take l.cell-index l.cells)
