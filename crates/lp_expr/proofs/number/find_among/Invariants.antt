use Rattle.std.proofs.Common.{◌≡◌, drop}
use Rattle.lp_expr.specs.Denotes.{texts_of, place_from}
use Rattle.lp_expr.proofs.number.find_among.Given as goal

abbrev pub invariant-loop-place : goal.invariant-loop-place
invariant-loop-place l = place_from l.place l.name (texts_of l.names (drop l.place l.ids)) ≡ place_from 0 l.name (texts_of l.names l.ids)
