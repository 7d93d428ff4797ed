use Rattle.std.proofs.Common.{◌≡◌, ◌++◌, drop}
use Rattle.lp_spec_design.specs.Graph.{some_of}
use Rattle.lp_targets.specs.Numbered.{target_of}
use Rattle.lp_targets.proofs.rows.row.Given as goal

abbrev pub invariant-loop-instance : goal.invariant-loop-instance
invariant-loop-instance l =
    l.row ++ some_of (target_of l.index.modules l.index.cells) (drop l.instance-index l.instances)
    ≡ some_of (target_of l.index.modules l.index.cells) l.instances
