use Rattle.std.proofs.Common.{◌<◌, ℕ, List, ap, length, subst, ◌∙◌}
use Rattle.std.specs.Prelude.{None}
use Rattle.lp_text.specs.declared.shelf.TheConstants.{LIMIT}
use Rattle.lp_model.specs.declared.upf.UpfWord.{UpfWord}
use Rattle.lp_model.specs.CommandsView.{line_view, name_view, option_view}
use Rattle.lp_spec_upf.specs.Commands.{last_word}
use Rattle.lp_upf.proofs.Ascii.{too_long}
use Rattle.lp_upf.proofs.Determined.{determined, last_short, sense_known}
use Rattle.lp_upf.proofs.expressions.sense_at.Goals as goal

pub returns-then-text-gt-LIMIT : goal.returns-then-text-gt-LIMIT
returns-then-text-gt-LIMIT c = λ s i h.
    let ws = line_view c.args.names.now c.args.option.now.values in
    let text = last_word ws in
    let control = name_view c.args.names.now c.args.control in
    let long = subst (λ (t : List ℕ). LIMIT < length t) (c.last_text-text.ensures ∙ ap (λ (xs : List UpfWord). last_word (line_view c.args.names.now xs)) c.as_slice.ensures) c.if-text-gt-LIMIT.true in
    determined s i text control None (λ high x. too_long text control high (last_short ws c.requires.short) long x)

pub returns : goal.returns
returns c =
    let names = c.args.names.now in
    sense_known c.sense_of.result (option_view names c.args.option.now) (name_view names c.args.control) c.last_text-text.result.now c.as_bytes.result.now
    (c.last_text-text.ensures ∙ ap (λ (xs : List UpfWord). last_word (line_view names xs)) c.as_slice.ensures) (c.as_bytes.ensures.value ∙ c.text.ensures) c.sense_of.ensures
