use Rattle.std.proofs.Common.{◌≡◌, not, sym, ap, ◌∙◌, false}
use Rattle.std.specs.Prelude.{is_some, Option}
use Rattle.std.specs.String.{string_bytes, string_eq}
use Rattle.indexmap.proofs.CallerLemmas.{insert_entry-new}
use Rattle.lp_model.specs.declared.netlist.BitRange.{BitRange}
use Rattle.lp_vwrite.specs.Layout.{range_in}
use Rattle.lp_vwrite.proofs.Ranges.{range-again, range-new, none_from, lookup-view}
use Rattle.lp_vwrite.proofs.vectors.Vectors.add.Goals as goal

pub returns-in_ok-insert : goal.returns-in_ok-insert
returns-in_ok-insert c =
    let vs = c.args.self.now in
    let key = c.in_ok-copy.copy in
    let es = c.self.inside.ranges.entries in
    let lacks : is_some (range_in vs c.args.name.now) ≡ false = ap (λ (o : Option BitRange). is_some o) (sym c.find.ensures) ∙ c.is_none.ensures ∙ ap not c.if-is_none.true in
    let named = c.in_ok-copy.ensures.ok in
    let missing = lookup-view string_bytes (string_bytes key) es ∙ ap (λ x. range_in x (string_bytes key)) c.self.view_is ∙ ap (range_in vs) named ∙ none_from (range_in vs c.args.name.now) lacks in
    range-new string_bytes es c.insert.new.self.entries key c.args.range vs c.args.name.now c.self.view_is named (c.in_ok-insert.ensures.entries ∙ insert_entry-new string_eq c.self.inside.ranges key c.args.range missing)

pub returns-else-is_none : goal.returns-else-is_none
returns-else-is_none c =
    range-again c.args.self.now c.args.name.now c.args.range (ap (λ (o : Option BitRange). is_some o) (sym c.find.ensures) ∙ c.is_none.ensures ∙ ap not c.if-is_none.false)
