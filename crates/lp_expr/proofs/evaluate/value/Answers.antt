use Rattle.std.proofs.Common.{cond, sym, ap, ◌∙◌}
use Rattle.lp_tern.specs.declared.tern.Tern.TheVariants.{Zero, One}
use Rattle.lp_expr.proofs.PlacesLemmas.{place-first, value-all, value-some}
use Rattle.lp_expr.proofs.evaluate.value.Goals as goal

pub bit-first-requires : goal.bit-first-requires
bit-first-requires c =
    let fixed = c.fixed_by-fixed in
    (place-first c.args.e.now c.args.v.now fixed.result.mask fixed.result.ones c.requires fixed.ensures.mask fixed.ensures.ones).inside

pub returns-then-not-all_agree : goal.returns-then-not-all_agree
returns-then-not-all_agree c =
    let fixed = c.fixed_by-fixed in
    sym (value-some c.args.e.now c.args.v.now fixed.result.mask fixed.result.ones c.requires fixed.ensures.mask fixed.ensures.ones c.bit-first.result (sym c.bit-first.ensures) c.if-not-all_agree.ensures)

pub returns-then-first : goal.returns-then-first
returns-then-first c =
    let fixed = c.fixed_by-fixed in
    sym (value-all c.args.e.now c.args.v.now fixed.result.mask fixed.result.ones c.requires fixed.ensures.mask fixed.ensures.ones c.bit-first.result c.if-not-all_agree.ensures ∙ ap (λ b. cond b One Zero) c.if-first.true)

pub returns-else-first : goal.returns-else-first
returns-else-first c =
    let fixed = c.fixed_by-fixed in
    sym (value-all c.args.e.now c.args.v.now fixed.result.mask fixed.result.ones c.requires fixed.ensures.mask fixed.ensures.ones c.bit-first.result c.if-not-all_agree.ensures ∙ ap (λ b. cond b One Zero) c.if-first.false)
