use Rattle.std.proofs.Common.{◌≡◌, [], get_or, true, sym, ◌∙◌, arith}
use Rattle.std.proofs.lemmas.List.{get_or_read}
use Rattle.lp_text.specs.Texts.{has_text}
use Rattle.lp_text.proofs.TextsLemmas.{distinct-take_repeated, true-from_not}
use Rattle.lp_table.proofs.table.all_distinct.Goals as goal

pub returns-then-not-branch : goal.returns-then-not-branch
returns-then-not-branch c =
    let texts = c.args.texts.now in
    let i = c.loop-text.text-index in
    let text : c.all.result.now ≡ get_or texts i [] = c.all.ensures ∙ get_or_read texts i c.text-item.result (omega arith) c.text-item.is [] in
    let again : has_text c.all.result.now c.loop-text.table ≡ true = true-from_not _ (sym c.in_ok-add.ensures.added ∙ c.if-not-branch.true) in
    sym (distinct-take_repeated texts i (omega arith) (rw (text, c.loop-text.invariant.texts) at again))
