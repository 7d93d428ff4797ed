use Rattle.std.proofs.Common.{◌≡◌, List, ap, sym, ◌∙◌, subst, length, map}
use Rattle.std.specs.Prelude.{IfOk, Option}
use Rattle.lp_model.specs.CommandsView.{WordView, word_view}
use Rattle.lp_spec_upf.specs.Shapes.{OptionRule}
use Rattle.lp_spec_upf.specs.Commands.{option_at, rule_of, value_faults, values_of}
use Rattle.lp_upf.specs.declared.options.Next.{Next}
use Rattle.lp_upf.specs.Options.{Reading, at_option, at_skipped, next_view, reading_numbers, reading_view, step_at, valued}
use Rattle.lp_upf.specs.Tables.{rule_view, value_of}
use Rattle.lp_upf.proofs.Carried.{below_more, grown_length, reading-same}
use Rattle.lp_upf.proofs.options.step.Goals as goal

pub returns-in_ok-given-in-ValueOf-clause-value : goal.returns-in_ok-given-in-ValueOf-clause-value
returns-in_ok-given-in-ValueOf-clause-value c =
    let old = c.args.names.now in
    let new = c.read_value.new.names in
    let rules = map rule_view c.args.rules.now in
    let r = c.in-ValueOf.rule in
    let w = word_view old c.args.word in
    let o = word_view old c.in-ValueOf.option in
    let s = reading_view old c.args.reading in
    let fs = value_faults (value_of r.value) o w in
    let v = option_at (rule_view r) o (values_of (value_of r.value) w) in
    let g = c.in_ok-given-in-ValueOf.ensures in
    subst (λ (x : Reading). IfOk c.valued.result (λ t. reading_view new t ≡ x))
    (ap (valued fs v) (reading-same old new c.args.reading g.grown c.requires.numbers) ∙ ap (λ (n : Next). step_at rules (next_view old n) w s) (sym c.in-ValueOf.is))
    (c.valued.ensures.value new fs v g.faults (ap (λ (ws : List WordView). option_at (rule_view r) o ws) (sym g.words)))

pub returns-in_ok-given-in-ValueOf-clause-below : goal.returns-in_ok-given-in-ValueOf-clause-below
returns-in_ok-given-in-ValueOf-clause-below c =
    let old = c.args.names.now in
    let new = c.read_value.new.names in
    let g = c.in_ok-given-in-ValueOf.ensures in
    c.valued.ensures.below (length new) (below_more (length old) (length new) (reading_numbers c.args.reading) (grown_length old new g.grown) c.requires.numbers) g.words_below g.faults_below

pub returns-in-Some-clause-value : goal.returns-in-Some-clause-value
returns-in-Some-clause-value c =
    let names = c.args.names.now in
    let rules = map rule_view c.args.rules.now in
    let w = word_view names c.args.word in
    let s = reading_view names c.args.reading in
    subst (λ (x : Reading). IfOk c.listed.result (λ t. reading_view names t ≡ x))
    (ap (λ (o : Option OptionRule). at_option o w s) (c.in-Some.ensures ∙ ap (rule_of rules) (c.as_bytes.ensures.value ∙ c.text.ensures))
    ∙ ap (λ (n : Next). step_at rules (next_view names n) w s) (sym c.in-Option.is))
    (c.listed.ensures.value names)

pub returns-in-Some-rule_of-clause-value : goal.returns-in-Some-rule_of-clause-value
returns-in-Some-rule_of-clause-value c =
    let names = c.args.names.now in
    let rules = map rule_view c.args.rules.now in
    let w = word_view names c.args.word in
    let s = reading_view names c.args.reading in
    subst (λ (x : Reading). IfOk c.listed-in-Some-rule_of.result (λ t. reading_view names t ≡ x))
    (ap (λ (o : Option OptionRule). at_skipped o w s) (c.in-Some-rule_of.ensures ∙ ap (rule_of rules) (c.as_bytes-in-Skipped.ensures.value ∙ c.text-in-Skipped.ensures))
    ∙ ap (λ (n : Next). step_at rules (next_view names n) w s) (sym c.in-Skipped.is))
    (c.listed-in-Some-rule_of.ensures.value names)
