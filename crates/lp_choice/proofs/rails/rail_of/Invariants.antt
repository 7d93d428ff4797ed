use Rattle.std.proofs.Common.{◌≡◌, drop}
use Rattle.lp_choice.specs.Rails.{rail_of}
use Rattle.lp_choice.proofs.rails.rail_of.Given as goal

abbrev pub invariant-loop-i : goal.invariant-loop-i
invariant-loop-i l = rail_of l.names (drop l.i l.pgs) (drop l.i l.origins) l.name ≡ rail_of l.names l.pgs l.origins l.name
