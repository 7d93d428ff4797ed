use Rattle.std.proofs.Common.{◌≡◌, take}
use Rattle.std.specs.Prelude.{map}
use Rattle.lp_plain_loops.specs.Rows.{row_of}
use Rattle.lp_plain_loops.specs.Numbered.{all_shown}
use Rattle.lp_plain_loops.proofs.rows.graph_of.Given as goal

abbrev pub invariant-loop-driver : goal.invariant-loop-driver
invariant-loop-driver l = l.graph ≡ map row_of (all_shown l.nets (take l.driver-index l.found))
