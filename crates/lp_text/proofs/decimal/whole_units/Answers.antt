use Rattle.std.proofs.Common.{arith}
use Rattle.lp_text.proofs.Digits.{decimal-more}
use Rattle.lp_text.proofs.decimal.whole_units.Goals as goal

pub loop-digit-preserved : goal.loop-digit-preserved
loop-digit-preserved c =
    let more = decimal-more c.args.digits.now c.loop-digit.digit-index c.loop-digit-test.true in
    omega (arith, c.loop-digit.invariant)
