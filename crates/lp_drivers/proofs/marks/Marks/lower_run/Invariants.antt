use Rattle.std.proofs.Common.{◌≡◌, ◌-◌}
use Rattle.lp_spec_design.specs.Netlists.{upward}
use Rattle.lp_drivers.specs.Seen.{lower_all}
use Rattle.lp_drivers.proofs.marks.Marks.lower_run.Given as goal

abbrev pub invariant-loop-place : goal.invariant-loop-place
invariant-loop-place l = lower_all l.self.1 l.least (upward (l.place - l.start) l.start) ≡ l.least
