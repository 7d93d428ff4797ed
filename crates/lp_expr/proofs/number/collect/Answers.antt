use Rattle.std.proofs.Common.{◌≡◌, ◌+◌, ap, sym, ◌∙◌, get_or, drop, Bool, MatchBool, true, false}
use Rattle.std.specs.Prelude.{fold}
use Rattle.std.proofs.lemmas.List.{drop_more}
use Rattle.lp_text.specs.Texts.{with_text}
use Rattle.lp_expr.specs.declared.dialect.Part.TheVariants as parts
use Rattle.lp_expr.specs.Parts.{item_of}
use Rattle.lp_expr.specs.Denotes.{texts_of, firsts, parts_names, item_names}
use Rattle.lp_expr.proofs.Numbers.{overflows_all}
use Rattle.lp_expr.proofs.number.collect.Goals as goal

at_false : (b : Bool) (P Q : Type 0) → b ≡ false → MatchBool b P Q → Q
at_false false P Q e h = h
at_false true P Q e h = absurd cc

pub returns-then-not-branch-clause-ok : goal.returns-then-not-branch-clause-ok
returns-then-not-branch-clause-ok c =
    let text = c.args.text.now in
    let all = c.args.parts.now in
    let at = c.loop-part.part-index in
    let part = get_or all at (parts.Plain 0 0) in
    let texts = texts_of c.loop-part.names c.loop-part.ids.items in
    let here = ap (λ ps. fold with_text texts (parts_names text ps)) (drop_more all at (parts.Plain 0 0) c.loop-part-test.true) in
    let over = at_false _ _ _ c.if-not-branch.true c.in_ok-note_part.ensures.ok in
    overflows_all c.loop-part.names c.loop-part.ids.items (item_names (item_of text part)) (parts_names text (drop (at + 1) all)) c.note_part.new.names (firsts (parts_names text all)) over (sym here ∙ c.loop-part.invariant.texts)
