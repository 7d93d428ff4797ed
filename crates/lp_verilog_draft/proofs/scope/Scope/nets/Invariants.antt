use Rattle.std.proofs.Common.{◌≡◌, ◌++◌, drop}
use Rattle.lp_verilog_draft.specs.Scopes.{nets_of}
use Rattle.lp_verilog_draft.proofs.scope.Scope.nets.Given as goal

abbrev pub invariant-loop-i : goal.invariant-loop-i
invariant-loop-i l = l.nets ++ nets_of (drop l.i l.self) ≡ nets_of l.self
