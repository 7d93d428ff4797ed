use Rattle.std.proofs.Common.{◌≡◌, ◌≤◌, drop}
use Rattle.lp_drivers.specs.Seen.{lower_all}
use Rattle.lp_drivers.proofs.Joined.{places_of}
use Rattle.lp_drivers.proofs.marks.Marks.lower_joints.Given as goal

abbrev pub invariant-loop-run : goal.invariant-loop-run
invariant-loop-run l = record {
  low : l.least ≤ l.self.0;
  is : lower_all l.self.1 l.least (places_of (drop l.run-index l.runs)) ≡ lower_all l.self.1 l.self.0 (places_of l.runs);
}
