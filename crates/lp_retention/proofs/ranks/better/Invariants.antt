use Rattle.std.proofs.Common.{◌≡◌, ◌++◌, map, drop}
use Rattle.lp_spec_design.specs.Graph.{numbered}
use Rattle.lp_retention.specs.Ranks.{better_at, better}
use Rattle.lp_retention.proofs.ranks.better.Given as goal

abbrev pub invariant-loop-place : goal.invariant-loop-place
invariant-loop-place l = l.next ++ map (better_at l.graph l.domains l.reach l.number l.bests) (numbered l.place (drop l.place l.leaf-items)) ≡ better l.graph l.domains l.reach l.number l.bests
