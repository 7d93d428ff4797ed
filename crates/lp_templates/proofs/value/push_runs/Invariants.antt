use Rattle.std.proofs.Common.{◌≡◌, ◌++◌, drop}
use Rattle.std.specs.Prelude.{flat_map}
use Rattle.lp_model.specs.Bits.{run_bits}
use Rattle.lp_templates.specs.Pieces.{places_in}
use Rattle.lp_templates.specs.Values.{places_of}
use Rattle.lp_templates.proofs.value.push_runs.Given as goal

abbrev pub invariant-loop-run : goal.invariant-loop-run
invariant-loop-run l = places_in l.pieces.items ++ places_of l.scope (flat_map run_bits (drop l.run-index l.runs)) ≡ places_in l.fn.pieces.items ++ places_of l.scope (flat_map run_bits l.runs)
