use Rattle.std.proofs.Common.{◌≡◌, List, not, ◌&&◌, ap, sym, ◌∙◌, subst, Bool}
use Rattle.std.specs.Prelude.{IfOk, if◌then◌else◌}
use Rattle.lp_model.specs.declared.upf.OptionWord.{OptionWord}
use Rattle.lp_model.specs.CommandsView.{word_view}
use Rattle.lp_spec_upf.specs.Commands.{Syntax, has_option}
use Rattle.lp_upf.specs.Options.{Reading, begun, reading_view, refused}
use Rattle.lp_upf.specs.Tables.{rule_view}
use Rattle.lp_upf.proofs.Run.{had_map}
use Rattle.lp_upf.proofs.options.listed.Goals as goal

pub returns-then-is_again-clause-value : goal.returns-then-is_again-clause-value
returns-then-is_again-clause-value c = λ names.
    let r = rule_view c.args.rule in
    let w = word_view names c.args.word in
    let s = reading_view names c.args.reading in
    c.refused.ensures.value names
    ∙ ap (λ (b : Bool). if b then refused (Syntax w.place) s else begun r r.value w s)
    (c.if-is_again.ensures ∙ ap (λ (ws : List OptionWord). not r.repeats && has_option ws r.word) (sym (had_map names c.args.reading.options)))

pub returns-clause-value : goal.returns-clause-value
returns-clause-value c = λ names.
    let r = rule_view c.args.rule in
    let w = word_view names c.args.word in
    let s = reading_view names c.args.reading in
    subst (λ (x : Reading). IfOk c.begun.result (λ t. reading_view names t ≡ x))
    (ap (λ (b : Bool). if b then refused (Syntax w.place) s else begun r r.value w s)
    (c.if-is_again.ensures ∙ ap (λ (ws : List OptionWord). not r.repeats && has_option ws r.word) (sym (had_map names c.args.reading.options))))
    (c.begun.ensures.value names)
