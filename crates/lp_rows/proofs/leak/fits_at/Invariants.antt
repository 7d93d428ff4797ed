use Rattle.std.proofs.Common.{◌≡◌, true}
use Rattle.lp_rows.specs.Leaks.{agrees_under, each_below}
use Rattle.lp_rows.proofs.leak.fits_at.Given as goal

abbrev pub invariant-loop-origin : goal.invariant-loop-origin
invariant-loop-origin l = each_below (agrees_under l.s l.row l.a l.b l.port l.state) l.origin ≡ true
