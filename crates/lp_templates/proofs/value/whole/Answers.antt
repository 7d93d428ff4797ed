use Rattle.std.proofs.Common.{◌≡◌, Some, subst, arith}
use Rattle.std.specs.Prelude.{IfSome}
use Rattle.lp_templates.specs.declared.piece.Piece.{Piece}
use Rattle.lp_templates.specs.Numbered.{spot_of}
use Rattle.lp_templates.specs.Pieces.{piece_places}
use Rattle.lp_templates.proofs.Parts.{selected}
use Rattle.lp_templates.proofs.value.whole.Goals as goal

pub returns-in_ok-spot-in-Part : goal.returns-in_ok-spot-in-Part
returns-in_ok-spot-in-Part c =
    let x = c.in_ok-spot-in-Part.field-0 in
    let got : spot_of c.args.scope.now c.in-Part.name.0 ≡ Some x = grind (arith, c.spot.ensures.spot, c.in_ok-spot-in-Part.was, c.in_ok-spot-in-Part.is) in
    rw c.in-Part.is (subst (λ z. IfSome c.part.result (λ (p : Piece). piece_places p ≡ z)) (selected c.args.scope.now c.in-Part.name x c.in-Part.first c.in-Part.last got) c.part.ensures)
