use Rattle.std.proofs.Common.{◌≡◌, true}
use Rattle.lp_rows.specs.Leaks.{fits, each_below}
use Rattle.lp_rows.proofs.leak.all_fit.Given as goal

abbrev pub invariant-loop-port : goal.invariant-loop-port
invariant-loop-port l = each_below (fits l.s l.row l.a l.b) l.port ≡ true
