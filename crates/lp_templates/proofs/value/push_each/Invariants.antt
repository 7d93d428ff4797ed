use Rattle.std.proofs.Common.{◌≡◌, ◌++◌, drop}
use Rattle.lp_model.specs.Bits.{run_bits}
use Rattle.lp_templates.specs.Pieces.{places_in}
use Rattle.lp_templates.specs.Values.{places_of}
use Rattle.lp_templates.proofs.value.push_each.Given as goal

abbrev pub invariant-loop-at : goal.invariant-loop-at
invariant-loop-at l = places_in l.pieces.items ++ places_of l.scope (drop l.at (run_bits l.run)) ≡ places_in l.fn.pieces.items ++ places_of l.scope (run_bits l.run)
