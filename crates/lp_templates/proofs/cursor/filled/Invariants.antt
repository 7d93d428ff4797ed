use Rattle.std.proofs.Common.{◌≡◌, drop}
use Rattle.lp_templates.specs.Pieces.{places_in}
use Rattle.lp_templates.proofs.cursor.filled.Given as goal

abbrev pub invariant-loop-k : goal.invariant-loop-k
invariant-loop-k l = places_in (drop l.k l.pieces) ≡ places_in l.pieces
