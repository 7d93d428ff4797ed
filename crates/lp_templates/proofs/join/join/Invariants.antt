use Rattle.std.proofs.Common.{◌≡◌, ◌++◌, length}
use Rattle.lp_templates.specs.Pieces.{places_in, rest_of, joints_of}
use Rattle.lp_templates.proofs.join.join.Given as goal

abbrev pub invariant-loop-left : goal.invariant-loop-left
invariant-loop-left l = l.joints ++ joints_of (rest_of l.driven) (rest_of l.drivers) ≡ l.fn.joints ++ joints_of (places_in l.to) (places_in l.from)

abbrev pub decreases-loop-left : goal.decreases-loop-left
decreases-loop-left l = length (rest_of l.driven)
