use Rattle.std.proofs.Common.{◌≡◌, length, sym, ap, ◌∙◌, subst, arith, vec_len, [], ◌∷◌}
use Rattle.std.specs.Prelude.{is_some}
use Rattle.lp_text.specs.Texts.{has_text}
use Rattle.lp_expr.specs.Denotes.{texts_of, Noted}
use Rattle.lp_expr.proofs.Numbers.{is_some-place_from, noted_again, noted_new, overflow_new}
use Rattle.lp_expr.proofs.number.note.Goals as goal
use Rattle.lp_expr.proofs.number.note.Goals.{After-is_some}

there : (c : After-is_some) → c.is_some.result ≡ has_text c.args.name.now (texts_of c.args.names.now c.args.ids.now.items)
there c = c.is_some.ensures ∙ ap is_some c.find_among.ensures.place ∙ is_some-place_from 0 c.args.name.now (texts_of c.args.names.now c.deref.result.now) ∙ ap (λ ids. has_text c.args.name.now (texts_of c.args.names.now ids)) c.deref.ensures.value

size : (c : After-is_some) → length c.args.ids.now.items ≡ vec_len c.args.ids.now
size c = ap length (sym c.deref.ensures.value) ∙ c.deref.ensures.len

pub returns-then-is_some-clause-ok : goal.returns-then-is_some-clause-ok
returns-then-is_some-clause-ok c =
    let at = (goal.at.returns-then-is_some-clause-ok c).After-is_some in
    noted_again c.args.names.now c.args.ids.now.items c.args.name.now c.requires.below (let few = c.requires.few in let long = size at in omega arith) (sym (there at) ∙ c.if-is_some.true)

pub returns-then-len-eq-MOST-clause-ok : goal.returns-then-len-eq-MOST-clause-ok
returns-then-len-eq-MOST-clause-ok c =
    let at = (goal.at.returns-then-len-eq-MOST-clause-ok c).After-is_some in
    overflow_new c.args.names.now c.args.ids.now.items c.args.name.now (size at ∙ sym c.len.ensures ∙ c.if-len-eq-MOST.true) (sym (there at) ∙ c.if-is_some.false)

pub returns-clause-ok : goal.returns-clause-ok
returns-clause-ok c =
    let at = (goal.at.returns-clause-ok c).After-is_some in
    let long : length c.args.ids.now.items ≡ vec_len c.args.ids.now = size at in
    let room : length c.args.ids.now.items ≡ 12 → ⊥ = λ e. c.if-len-eq-MOST.false (c.len.ensures ∙ sym long ∙ e) in
    let noted = noted_new c.args.names.now c.intern.new.names c.args.ids.now.items c.args.name.now c.in_ok-id.id c.requires.below (let few = c.requires.few in omega arith) room (sym (there at) ∙ c.if-is_some.false) c.in_ok-id.ensures.ok c.in_ok-id.ensures.number in
    subst (λ ids. Noted c.args.names.now c.args.ids.now.items (c.args.name.now ∷ []) c.intern.new.names ids) (sym c.in_ok-push.ensures.items) noted
