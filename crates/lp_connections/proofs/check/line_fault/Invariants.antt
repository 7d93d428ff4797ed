use Rattle.std.proofs.Common.{◌≡◌, drop}
use Rattle.lp_connections.specs.Numbered.{found_at, module_fault, row_of}
use Rattle.lp_connections.proofs.check.line_fault.Given as goal

abbrev pub invariant-loop-place : goal.invariant-loop-place
invariant-loop-place l = found_at (λ k m. module_fault l.question l.design (row_of l.rows k) m) l.place (drop l.place l.modules) ≡ found_at (λ k m. module_fault l.question l.design (row_of l.rows k) m) 0 l.modules
