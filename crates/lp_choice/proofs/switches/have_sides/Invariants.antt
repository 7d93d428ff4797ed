use Rattle.std.proofs.Common.{◌≡◌, drop}
use Rattle.lp_choice.specs.Switches.{have_sides}
use Rattle.lp_choice.proofs.switches.have_sides.Given as goal

abbrev pub invariant-loop-place : goal.invariant-loop-place
invariant-loop-place l = have_sides l.passes l.place (drop l.place l.pgs) ≡ have_sides l.passes 0 l.pgs
