use Rattle.std.proofs.Common.{◌≡◌, drop}
use Rattle.lp_connections.specs.Numbered.{found_at, fault_placed}
use Rattle.lp_connections.proofs.check.instance_fault.Given as goal

abbrev pub invariant-loop-place : goal.invariant-loop-place
invariant-loop-place l = found_at (fault_placed l.question l.design l.parent l.row) l.place (drop l.place l.instances) ≡ found_at (fault_placed l.question l.design l.parent l.row) 0 l.instances
