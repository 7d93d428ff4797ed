use Rattle.std.proofs.Common.{◌≡◌, drop}
use Rattle.lp_drivers.specs.Seen.{see_all}
use Rattle.lp_drivers.proofs.Joined.{places_of}
use Rattle.lp_drivers.proofs.marks.Marks.see_joints.Given as goal

abbrev pub invariant-loop-run : goal.invariant-loop-run
invariant-loop-run l = see_all l.self (places_of (drop l.run-index l.runs)) ≡ see_all l.initial.self (places_of l.runs)
