use Rattle.std.proofs.Common.{◌<◌, length, arith, ◌∷◌, [], ◌++◌, ◌∙◌, sym}
use Rattle.std.proofs.lemmas.List.{map_more}
use Rattle.lp_choice.specs.Wires.{number_wire}
use Rattle.lp_choice.proofs.down.number_wires.Goals as goal

pub loop-key-preserved : goal.loop-key-preserved
loop-key-preserved c =
    let inside : c.loop-key.key-index < length c.args.list.now = omega (arith, c.loop-key-test.true) in
    c.in_ok-push.ensures.items
    ∙ ((λ i. c.loop-key.invariant i ++ c.number_wire.ensures i ∷ [])
    ∙ sym (map_more (number_wire c.args.keys.now) c.args.list.now c.loop-key.key-index _ inside))
