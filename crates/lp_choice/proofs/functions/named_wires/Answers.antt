use Rattle.std.proofs.Common.{◌<◌, length, arith, ◌∷◌, [], ◌++◌, ◌∙◌, sym}
use Rattle.std.proofs.lemmas.List.{map_more}
use Rattle.lp_choice.specs.Wires.{named_wire}
use Rattle.lp_choice.proofs.functions.named_wires.Goals as goal

pub loop-name-preserved : goal.loop-name-preserved
loop-name-preserved c =
    let inside : c.loop-name.name-index < length c.args.list.now = omega (arith, c.loop-name-test.true) in
    c.in_ok-push.ensures.items
    ∙ ((λ i. c.loop-name.invariant i ++ c.named_wire.ensures i ∷ [])
    ∙ sym (map_more (named_wire c.args.names.now c.args.keys.now) c.args.list.now c.loop-name.name-index _ inside))
