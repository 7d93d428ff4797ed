use Rattle.lp_expr.specs.Table.{is_bit}
use Rattle.lp_expr.proofs.PlacesLemmas.{IsPlaceFrom}
use Rattle.lp_expr.proofs.compare.place_in.Given as goal

abbrev pub invariant-loop-i : goal.invariant-loop-i
invariant-loop-i l = IsPlaceFrom (is_bit l.choice) l.slots l.i l.place
