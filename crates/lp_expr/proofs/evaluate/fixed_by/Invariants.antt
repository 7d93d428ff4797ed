use Rattle.lp_expr.specs.Places.{is_known, is_one}
use Rattle.lp_expr.proofs.PlacesLemmas.{IsPlaceFrom}
use Rattle.lp_expr.proofs.evaluate.fixed_by.Given as goal

abbrev pub invariant-loop-i : goal.invariant-loop-i
invariant-loop-i l = IsPlaceFrom is_known l.v l.i l.mask × IsPlaceFrom is_one l.v l.i l.ones
