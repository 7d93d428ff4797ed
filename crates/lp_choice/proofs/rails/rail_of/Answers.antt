use Rattle.std.proofs.Common.{◌≡◌, ◌<◌, ◌∙◌, ap, sym, false, length, arith}
use Rattle.std.specs.Prelude.{bytes_eq}
use Rattle.lp_text.specs.Texts.{text_at}
use Rattle.lp_model.specs.declared.library.PgPin.{PgPin}
use Rattle.lp_choice.proofs.Rows.{rail-behind}
use Rattle.lp_choice.proofs.rails.rail_of.Goals as goal

pub loop-i-preserved : goal.loop-i-preserved
loop-i-preserved c =
    let low : c.loop-i.i < length c.args.pgs.now = omega (arith, c.loop-i-test.true) in
    let unlike : bytes_eq (text_at c.args.names.now c.index-pgs-i.result.name.0) (text_at c.args.names.now c.args.name.0) ≡ false = ap (λ (p : PgPin). bytes_eq (text_at c.args.names.now p.name.0) (text_at c.args.names.now c.args.name.0)) c.index-pgs-i.is ∙ (sym c.are_same.ensures ∙ c.if-are_same.false) in
    rail-behind c.args.names.now c.args.pgs.now c.args.origins.now c.loop-i.i c.index-pgs-i.result c.args.name low c.requires c.index-pgs-i.is unlike ∙ c.loop-i.invariant
