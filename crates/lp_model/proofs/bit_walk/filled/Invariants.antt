use Rattle.std.proofs.Common.{◌≡◌, drop}
use Rattle.std.specs.Prelude.{flat_map}
use Rattle.lp_model.specs.Bits.{run_bits}
use Rattle.lp_model.proofs.bit_walk.filled.Given as goal

abbrev pub invariant-loop-k : goal.invariant-loop-k
invariant-loop-k l = flat_map run_bits (drop l.k l.runs) ≡ flat_map run_bits l.runs
