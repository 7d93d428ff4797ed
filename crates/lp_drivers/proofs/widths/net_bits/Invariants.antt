use Rattle.std.proofs.Common.{◌≡◌, min, take}
use Rattle.std.specs.Prelude.{sum_by}
use Rattle.lp_spec_faults.specs.Modules.{bit_count}
use Rattle.lp_drivers.specs.Table.{most_bits}
use Rattle.lp_drivers.proofs.widths.net_bits.Given as goal

abbrev pub invariant-loop-net : goal.invariant-loop-net
invariant-loop-net l = l.total ≡ min most_bits (sum_by (λ x. bit_count x.range) (take l.net-index l.nets))
