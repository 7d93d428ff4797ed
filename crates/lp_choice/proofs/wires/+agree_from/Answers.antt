use Rattle.std.proofs.Common.{◌≡◌, ◌+◌, ◌-◌, suc, zero, ◌&&◌, take, arith, ◌∙◌, ap, sym}
use Rattle.lp_spec_design.specs.Keys.{same_bool}
use Rattle.lp_choice.specs.Wires.{agree_at}
use Rattle.lp_choice.proofs.Agreeing.{both, neither, alone, beq-same}
use Rattle.lp_choice.proofs.wires.+agree_from.Goals as goal

pub returns-then-set-n : goal.returns-then-set-n
returns-then-set-n t c =
    let here = agree_at c.args.e.now c.args.v.now c.args.f.now c.args.w.now in
    let none : c.args.n - c.args.set ≡ zero = omega (arith, c.if-set-n.true) in
    beq-same c.value_at.result c.value_at-then-set-n.result
    ∙ ((λ i. same_bool (c.value_at.ensures i) (c.value_at-then-set-n.ensures i))
    ∙ (ap (λ n. here (take n c.args.choice)) (sym c.if-set-n.true)
    ∙ sym (alone here (take c.args.set c.args.choice) (c.args.n - c.args.set) none)))

pub returns-then-agree_from : goal.returns-then-agree_from
returns-then-agree_from t c =
    let here = agree_at c.args.e.now c.args.v.now c.args.f.now c.args.w.now in
    let more : c.args.n - c.args.set ≡ suc (c.args.n - (c.args.set + 1)) = omega (arith, c.if-set-n.false) in
    ap (λ b. b && c.agree_from-then-agree_from.result) (sym c.if-agree_from.true)
    ∙ both here (take c.args.set c.args.choice) _ _ (c.args.n - c.args.set) (c.args.n - (c.args.set + 1)) c.agree_from.result c.agree_from-then-agree_from.result more c.with_bit.ensures c.with_bit-then-agree_from.ensures c.agree_from.ensures c.agree_from-then-agree_from.ensures

pub returns-else-agree_from : goal.returns-else-agree_from
returns-else-agree_from t c =
    let here = agree_at c.args.e.now c.args.v.now c.args.f.now c.args.w.now in
    let more : c.args.n - c.args.set ≡ suc (c.args.n - (c.args.set + 1)) = omega (arith, c.if-set-n.false) in
    neither here (take c.args.set c.args.choice) _ (c.args.n - c.args.set) (c.args.n - (c.args.set + 1)) c.agree_from.result more c.with_bit.ensures c.agree_from.ensures c.if-agree_from.false
