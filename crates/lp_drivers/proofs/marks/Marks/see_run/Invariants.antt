use Rattle.std.proofs.Common.{◌≡◌, ◌-◌}
use Rattle.lp_spec_design.specs.Netlists.{upward}
use Rattle.lp_drivers.specs.Seen.{see_all}
use Rattle.lp_drivers.proofs.marks.Marks.see_run.Given as goal

abbrev pub invariant-loop-place : goal.invariant-loop-place
invariant-loop-place l = l.self ≡ see_all l.initial.self (upward (l.place - l.to) l.to)
