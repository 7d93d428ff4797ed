use Rattle.std.proofs.Common.{◌≡◌, List, [], ap, ◌∙◌, subst, length, map, arith}
use Rattle.std.specs.Prelude.{IfOk}
use Rattle.std.specs.List.{list_all}
use Rattle.lp_model.specs.declared.upf.CommandOption.{CommandOption}
use Rattle.lp_model.specs.CommandsView.{WordView, line_numbers, line_view, option_view}
use Rattle.lp_upf_words.specs.Sizes.{is_modest, sizes}
use Rattle.lp_spec_upf.specs.Commands.{Option_, options_of}
use Rattle.lp_spec_upf.specs.Shapes.{OptionRule}
use Rattle.lp_upf.specs.Options.{Read, options_view, read_of}
use Rattle.lp_upf.specs.States.{row_supplies, tables_numbers, tables_view}
use Rattle.lp_upf.proofs.Carried.{below_more, grown_length, line-grown}
use Rattle.lp_upf.proofs.Rows.{by_row, by_word}
use Rattle.lp_upf.proofs.named.exact.Goals as goal

pub row_supplies-requires-clause-states : goal.row_supplies-requires-clause-states
row_supplies-requires-clause-states c =
    let old = c.args.names.now in
    let new = c.options_of.new.names in
    below_more (length old) (length new) (tables_numbers c.args.states.now) (grown_length old new c.in_ok-loose.ensures.grown) c.requires.states

pub options_of-requires-in-Some-clause-below : goal.options_of-requires-in-Some-clause-below
options_of-requires-in-Some-clause-below c =
    let old = c.args.names.now in
    let new = c.options_of.new.names in
    below_more (length old) (length new) (line_numbers c.args.words.now) (grown_length old new c.in_ok-loose.ensures.grown) c.requires.below

pub options_of-requires-in-Some-clause-room : goal.options_of-requires-in-Some-clause-room
options_of-requires-in-Some-clause-room c =
    let old = c.args.names.now in
    let new = c.options_of.new.names in
    let same = ap (λ (ws : List WordView). sizes ws) (line-grown old new c.args.words.now c.in_ok-loose.ensures.grown c.requires.below) in
    let room = c.requires.room in
    let few = c.in_ok-loose.ensures.few in
    omega (arith, same, room, few)

pub options_of-requires-in-Some-clause-modest : goal.options_of-requires-in-Some-clause-modest
options_of-requires-in-Some-clause-modest c =
    ap (λ (ws : List WordView). list_all is_modest ws) (line-grown c.args.names.now c.options_of.new.names c.args.words.now c.in_ok-loose.ensures.grown c.requires.below)
    ∙ c.requires.modest

pub returns-in-None-clause-value : goal.returns-in-None-clause-value
returns-in-None-clause-value c =
    let old = c.args.names.now in
    let new = c.options_of.new.names in
    let ws = line_view old c.args.words.now in
    let value = c.in_ok-loose.ensures.value ∙ ap (λ (rs : List OptionRule). read_of (options_of rs c.args.end Option_ [] ws)) c.rules_of.ensures in
    value
    ∙ by_word old new c.args.states.now c.in_ok-loose.ensures.grown c.requires.states c.args.word c.args.end ws (map (option_view new) c.in_ok-loose.loose.options) (ap (λ (r : Read). r.options) value) (c.in-None.ensures ∙ ap (λ (os : List CommandOption). row_supplies c.args.word (tables_view new c.args.states.now) (map (option_view new) os)) c.as_slice.ensures)

pub returns-in-Some-clause-value : goal.returns-in-Some-clause-value
returns-in-Some-clause-value c =
    let old = c.args.names.now in
    let new = c.options_of.new.names in
    let ws = line_view old c.args.words.now in
    let value = c.in_ok-loose.ensures.value ∙ ap (λ (rs : List OptionRule). read_of (options_of rs c.args.end Option_ [] ws)) c.rules_of.ensures in
    subst (λ (x : Read). IfOk c.options_of-in-Some.result (λ o. options_view c.options_of-in-Some.new.names o ≡ x))
    (by_row old new c.args.states.now c.in_ok-loose.ensures.grown c.requires.states c.args.word c.args.end ws (map (option_view new) c.in_ok-loose.loose.options) c.in-Some.supplies _ (line_view new c.args.words.now) (ap (λ (r : Read). r.options) value) (c.in-Some.ensures ∙ ap (λ (os : List CommandOption). row_supplies c.args.word (tables_view new c.args.states.now) (map (option_view new) os)) c.as_slice.ensures) c.row_rules.ensures (line-grown old new c.args.words.now c.in_ok-loose.ensures.grown c.requires.below))
    c.options_of-in-Some.ensures.value

pub returns-in-Some-clause-few : goal.returns-in-Some-clause-few
returns-in-Some-clause-few c =
    let old = c.args.names.now in
    let new = c.options_of.new.names in
    let same = ap (λ (ws : List WordView). sizes ws) (line-grown old new c.args.words.now c.in_ok-loose.ensures.grown c.requires.below) in
    let few = c.in_ok-loose.ensures.few in
    let more = c.options_of-in-Some.ensures.few in
    omega (arith, same, few, more)
