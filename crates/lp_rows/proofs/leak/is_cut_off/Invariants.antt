use Rattle.std.proofs.Common.{◌≡◌, ◌-◌, length}
use Rattle.lp_rows.specs.Leaks.{is_cut}
use Rattle.lp_rows.proofs.leak.is_cut_off.Given as goal

abbrev pub invariant-loop-step : goal.invariant-loop-step
invariant-loop-step l = is_cut l.s l.row l.a (length l.s.origins - l.step) l.at ≡ is_cut l.s l.row l.a (length l.s.origins) l.origin
