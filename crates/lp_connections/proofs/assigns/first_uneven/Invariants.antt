use Rattle.std.proofs.Common.{◌≡◌, drop}
use Rattle.lp_connections.specs.Numbered.{found_at, uneven_assign}
use Rattle.lp_connections.proofs.assigns.first_uneven.Given as goal

abbrev pub invariant-loop-at : goal.invariant-loop-at
invariant-loop-at l = found_at uneven_assign l.at (drop l.at l.assigns) ≡ found_at uneven_assign 0 l.assigns
