use Rattle.std.proofs.Common.{◌≡◌, drop}
use Rattle.lp_domains.specs.Bits.{join_from, joints}
use Rattle.lp_domains.proofs.bits.joints.Given as goal

abbrev pub invariant-loop-number : goal.invariant-loop-number
invariant-loop-number l = join_from l.table.items l.number (drop l.number l.edges) ≡ joints l.count l.edges
