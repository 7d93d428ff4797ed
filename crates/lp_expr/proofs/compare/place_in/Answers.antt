use Rattle.std.proofs.Common.{◌+◌, ◌*◌, ap, arith}
use Rattle.lp_expr.specs.Table.{is_bit}
use Rattle.lp_expr.proofs.PlacesLemmas.{IsPlaceFrom-more}
use Rattle.lp_expr.proofs.compare.place_in.Goals as goal

pub loop-i-preserved : goal.loop-i-preserved
loop-i-preserved c =
    IsPlaceFrom-more (is_bit c.args.choice) c.args.slots.now c.loop-i.i 0 c.loop-i.place _ (omega arith) (omega arith) (omega arith) c.loop-i.invariant (ap (λ n. c.loop-i.place * 2 + n) c.digit_at.ensures)
