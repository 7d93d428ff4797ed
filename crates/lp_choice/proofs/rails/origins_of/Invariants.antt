use Rattle.std.proofs.Common.{◌≡◌, ◌++◌, drop}
use Rattle.lp_choice.specs.Rails.{origins_of}
use Rattle.lp_choice.proofs.rails.origins_of.Given as goal

abbrev pub invariant-loop-name : goal.invariant-loop-name
invariant-loop-name l = l.found.items ++ origins_of l.names l.pgs l.origins (drop l.name-index l.variables) ≡ origins_of l.names l.pgs l.origins l.variables
