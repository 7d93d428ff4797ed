use Rattle.std.proofs.Common.{◌≡◌, drop}
use Rattle.lp_connections.specs.Numbered.{found_at, uneven_placed}
use Rattle.lp_connections.proofs.widths.first_uneven_placed.Given as goal

abbrev pub invariant-loop-at : goal.invariant-loop-at
invariant-loop-at l = found_at (uneven_placed l.design l.target) l.at (drop l.at l.values) ≡ found_at (uneven_placed l.design l.target) 0 l.values
