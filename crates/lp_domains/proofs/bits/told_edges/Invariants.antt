use Rattle.std.proofs.Common.{◌≡◌, ◌++◌, drop}
use Rattle.lp_domains.specs.Bits.{bits_by}
use Rattle.lp_domains.proofs.bits.told_edges.Given as goal

abbrev pub invariant-loop-edge : goal.invariant-loop-edge
invariant-loop-edge l = l.bits ++ bits_by l.told (drop l.edge-index l.table) ≡ bits_by l.told l.table
