use Rattle.std.proofs.Common.{◌≡◌, drop}
use Rattle.std.specs.List.{list_any}
use Rattle.lp_rows.specs.Leaks.{fits_with}
use Rattle.lp_rows.proofs.leak.any_fits.Given as goal

abbrev pub invariant-loop-state : goal.invariant-loop-state
invariant-loop-state l = list_any (fits_with l.s l.row l.a l.b l.port) (drop l.state-index l.states) ≡ list_any (fits_with l.s l.row l.a l.b l.port) l.states
