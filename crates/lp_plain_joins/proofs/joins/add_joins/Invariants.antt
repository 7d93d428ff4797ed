use Rattle.std.proofs.Common.{◌≡◌, ◌++◌, map, take}
use Rattle.lp_plain_joins.specs.Joins.{join_of}
use Rattle.lp_plain_joins.proofs.joins.add_joins.Given as goal

abbrev pub invariant-loop-pin : goal.invariant-loop-pin
invariant-loop-pin l = l.connections ≡ l.fn.connections ++ map (join_of l.supplies) (take l.pin-index l.cell.pgs)
