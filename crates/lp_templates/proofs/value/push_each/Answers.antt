use Rattle.std.proofs.Common.{◌++◌, ◌∷◌, [], ap, ◌∙◌}
use Rattle.lp_model.specs.Bits.{run_bits}
use Rattle.lp_templates.specs.Pieces.{places_in}
use Rattle.lp_templates.specs.Values.{places_of}
use Rattle.lp_templates.proofs.Parts.{one_more}
use Rattle.lp_templates.proofs.value.push_each.Goals as goal

pub loop-at-preserved : goal.loop-at-preserved
loop-at-preserved c =
    rw c.in_ok-push.ensures.items
    (one_more c.loop-at.pieces.items c.single.result c.args.scope.now (run_bits c.args.run) c.loop-at.at c.bit.result
    (places_in c.args.pieces.now.items ++ places_of c.args.scope.now (run_bits c.args.run)) c.bit.ensures (c.single.ensures ∙ ap (λ z. z ∷ []) c.place_of-from.ensures.from) c.loop-at.invariant)
