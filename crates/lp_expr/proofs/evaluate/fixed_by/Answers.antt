use Rattle.std.proofs.Common.{◌+◌, ◌*◌, ap, arith}
use Rattle.lp_tern.specs.declared.tern.Tern.TheVariants.{Zero}
use Rattle.lp_expr.specs.Places.{is_known, is_one}
use Rattle.lp_expr.proofs.PlacesLemmas.{IsPlaceFrom-more}
use Rattle.lp_expr.proofs.evaluate.fixed_by.Goals as goal

pub loop-i-preserved : goal.loop-i-preserved
loop-i-preserved c = (
  IsPlaceFrom-more is_known c.args.v.now c.loop-i.i Zero c.loop-i.mask _ (omega arith) (omega arith) (omega arith) c.loop-i.invariant.0 (ap (λ n. c.loop-i.mask * 2 + n) c.known_digit.ensures),
  IsPlaceFrom-more is_one c.args.v.now c.loop-i.i Zero c.loop-i.ones _ (omega arith) (omega arith) (omega arith) c.loop-i.invariant.1 (ap (λ n. c.loop-i.ones * 2 + n) c.one_digit.ensures),
)
