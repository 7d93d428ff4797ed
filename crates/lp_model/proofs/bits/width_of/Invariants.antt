use Rattle.std.proofs.Common.{◌≡◌, ◌+◌, ◌*◌, ◌≤◌, drop, length}
use Rattle.std.specs.Prelude.{flat_map}
use Rattle.lp_model.specs.Bits.{run_bits}
use Rattle.lp_model.proofs.bits.width_of.Given as goal

abbrev pub invariant-loop-run : goal.invariant-loop-run
invariant-loop-run l = (l.width + length (flat_map run_bits (drop l.run-index l.runs)) ≡ length (flat_map run_bits l.runs)) × (l.width ≤ l.run-index * 4294967296)
