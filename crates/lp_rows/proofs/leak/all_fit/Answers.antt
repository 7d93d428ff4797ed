use Rattle.std.proofs.Common.{length, sym, ◌∙◌, arith}
use Rattle.lp_rows.specs.Leaks.{fits}
use Rattle.lp_rows.proofs.BelowLemmas.{each_below-false}
use Rattle.lp_rows.proofs.leak.all_fit.Goals as goal

pub returns-then-not-is_fit : goal.returns-then-not-is_fit
returns-then-not-is_fit c =
    let s = c.args.s.now in
    sym (each_below-false (fits s c.args.row.now c.args.a c.args.b) (length s.origins) c.loop-port.port (omega arith) (sym c.is_fit.ensures ∙ c.if-not-is_fit.true))
