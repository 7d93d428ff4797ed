use Rattle.std.proofs.Common.{◌≡◌, ◌++◌, drop}
use Rattle.lp_verilog_draft.specs.Scopes.{ports_of}
use Rattle.lp_verilog_draft.proofs.scope.Scope.ports.Given as goal

abbrev pub invariant-loop-i : goal.invariant-loop-i
invariant-loop-i l = l.ports ++ ports_of (drop l.i l.self) ≡ ports_of l.self
