use Rattle.std.proofs.Common.{◌≡◌, min, take}
use Rattle.std.specs.Prelude.{sum_by}
use Rattle.lp_spec_faults.specs.Modules.{bit_count}
use Rattle.lp_targets.proofs.own.port_bits.Given as goal

abbrev pub invariant-loop-port : goal.invariant-loop-port
invariant-loop-port l = l.total ≡ min l.fn.limit (sum_by (λ p. bit_count p.range) (take l.port-index l.ports))
