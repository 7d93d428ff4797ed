use Rattle.std.proofs.Common.{◌≡◌, ◌+◌, ◌≤◌, length, drop}
use Rattle.lp_targets.specs.Children.{cells_of}
use Rattle.lp_targets.proofs.own.cell_count.Given as goal

abbrev pub invariant-loop-target : goal.invariant-loop-target
invariant-loop-target l = record {
  counted : l.count + length (cells_of (drop l.target-index l.row)) ≡ length (cells_of l.row);
  few : l.count ≤ l.target-index;
}
