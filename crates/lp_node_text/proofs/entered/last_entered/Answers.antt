use Rattle.std.proofs.Common.{◌<◌, ◌∙◌, length, arith}
use Rattle.lp_node_text.proofs.Writing.{entered-next}
use Rattle.lp_node_text.proofs.entered.last_entered.Goals as goal

pub loop-number-preserved : goal.loop-number-preserved
loop-number-preserved c =
    let zs = c.args.template.now.statements in
    let low : c.loop-number.number < length zs = omega (arith, c.loop-number-test.true, c.len-number-end.ensures) in
    entered-next c.args.place c.loop-number.number c.loop-number.last c.entered_there-last.result zs low c.entered_there-last.ensures ∙ c.loop-number.invariant
