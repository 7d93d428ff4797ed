use Rattle.std.proofs.Common.{◌≡◌, ◌++◌, map, length}
use Rattle.std.specs.Prelude.{reverse}
use Rattle.lp_plain_joins.specs.Joins.{joined_instance}
use Rattle.lp_plain_joins.proofs.netlist.joined_instances.Given as goal

abbrev pub invariant-loop-instance : goal.invariant-loop-instance
invariant-loop-instance l = map (joined_instance l.index l.supplies) l.fn.instances ≡ map (joined_instance l.index l.supplies) l.instances ++ reverse l.last_first.items

abbrev pub decreases-loop-instance : goal.decreases-loop-instance
decreases-loop-instance l = length l.instances
