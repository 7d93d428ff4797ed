use Rattle.std.proofs.Common.{◌≡◌, ◌++◌, sym, ap, ◌∙◌}
use Rattle.lp_templates.specs.Pieces.{places_from, places_in, rest_of, joints_of}
use Rattle.lp_templates.specs.declared.piece.Piece.{Piece}
use Rattle.lp_templates.proofs.Joined.{cut_step}
use Rattle.lp_templates.proofs.join.join.Goals as goal

pub loop-left-preserved : goal.loop-left-preserved
loop-left-preserved c =
    let count = c.min-count.result in
    let to : rest_of c.loop-left.driven ≡ places_from c.in-Some.left.from count ++ rest_of c.skip.new.self =
    sym c.in-Some.ensures.same ∙ c.skip.ensures ∙ ap (λ (p : Piece). places_from p.from count ++ rest_of c.skip.new.self) c.in-Some.ensures.front.0 in
    let from : rest_of c.loop-left.drivers ≡ places_from c.in-Some-front.right.from count ++ rest_of c.skip-in-Some.new.self =
    sym c.in-Some-front.ensures.same ∙ c.skip-in-Some.ensures ∙ ap (λ (p : Piece). places_from p.from count ++ rest_of c.skip-in-Some.new.self) c.in-Some-front.ensures.front.0 in
    rw c.in_ok-put.ensures
    (cut_step c.loop-left.joints (c.args.joints.now ++ joints_of (places_in c.args.to.now) (places_in c.args.from.now)) (rest_of c.loop-left.driven) (rest_of c.loop-left.drivers) (rest_of c.skip.new.self) (rest_of c.skip-in-Some.new.self)
    c.in-Some.left.from c.in-Some-front.right.from count to from c.loop-left.invariant)
