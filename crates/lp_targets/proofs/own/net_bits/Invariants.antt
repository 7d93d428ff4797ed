use Rattle.std.proofs.Common.{◌≡◌, min, take}
use Rattle.std.specs.Prelude.{sum_by}
use Rattle.lp_spec_faults.specs.Modules.{bit_count}
use Rattle.lp_targets.proofs.own.net_bits.Given as goal

abbrev pub invariant-loop-net : goal.invariant-loop-net
invariant-loop-net l = l.total ≡ min l.fn.limit (sum_by (λ n. bit_count n.range) (take l.net-index l.nets))
