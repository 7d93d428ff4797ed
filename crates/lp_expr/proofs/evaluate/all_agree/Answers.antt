use Rattle.std.proofs.Common.{◌≡◌, ◌*◌, ◌%◌, ◌^◌, ◌-◌, length, ap, ◌∙◌, arith}
use Rattle.std.proofs.lemmas.Nat.{one_shl}
use Rattle.lp_expr.proofs.PlacesLemmas.{AllAt-known}
use Rattle.lp_expr.proofs.evaluate.all_agree.Goals as goal

pub returns-then-fixed-places : goal.returns-then-fixed-places
returns-then-fixed-places c =
    let count = c.count-places in
    let places : 1 * 2 ^ count.result % 2 ^ 64 ≡ 2 ^ count.result = one_shl count.result 64 (omega (arith, count.ensures.few)) in
    let full : c.args.fixed.now.mask ≡ 2 ^ length c.args.e.now.variables - 1 = c.if-fixed-places.true ∙ ap (λ n. n - 1) places ∙ ap (λ n. 2 ^ n - 1) count.ensures.count in
    AllAt-known c.args.e.now c.args.fixed.now.mask c.args.fixed.now.ones c.args.first full c.requires
