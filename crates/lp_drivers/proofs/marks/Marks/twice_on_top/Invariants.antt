use Rattle.std.proofs.Common.{◌≡◌, ◌≤◌, drop}
use Rattle.lp_drivers.specs.Seen.{lower_all}
use Rattle.lp_drivers.specs.Table.{input_runs}
use Rattle.lp_drivers.proofs.marks.Marks.twice_on_top.Given as goal

abbrev pub invariant-loop-port : goal.invariant-loop-port
invariant-loop-port l = record {
  low : l.least ≤ l.self.0;
  is : lower_all l.self.1 l.least (input_runs l.start (drop l.port-index l.ports)) ≡ lower_all l.self.1 l.self.0 (input_runs 0 l.ports);
}
