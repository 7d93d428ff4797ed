use Rattle.std.proofs.Common.{◌≡◌, ◌++◌, map, drop}
use Rattle.lp_spec_design.specs.Graph.{numbered}
use Rattle.lp_domains.specs.Boundary.{is_meeting, meetings}
use Rattle.lp_domains.proofs.boundary.meetings.Given as goal

abbrev pub invariant-loop-place : goal.invariant-loop-place
invariant-loop-place l = l.told.items ++ map (is_meeting l.domains) (numbered l.place (drop l.place l.instances)) ≡ meetings l.domains l.instances
