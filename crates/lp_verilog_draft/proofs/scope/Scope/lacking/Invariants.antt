use Rattle.std.proofs.Common.{◌≡◌, drop}
use Rattle.lp_verilog_draft.specs.Scopes.{lacking_of}
use Rattle.lp_verilog_draft.proofs.scope.Scope.lacking.Given as goal

abbrev pub invariant-loop-i : goal.invariant-loop-i
invariant-loop-i l = lacking_of (drop l.i l.self) ≡ lacking_of l.self
