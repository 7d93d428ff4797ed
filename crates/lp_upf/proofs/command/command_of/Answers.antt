use Rattle.std.proofs.Common.{◌-◌, List, ap, sym, ◌∙◌, length, take, drop}
use Rattle.std.specs.Prelude.{Option}
use Rattle.std.specs.Option.{option_map}
use Rattle.lp_model.specs.declared.upf.UpfWord.{UpfWord}
use Rattle.lp_model.specs.Agreement.{numbers_below, option_numbers}
use Rattle.lp_model.specs.CommandsView.{WordView, line_numbers, line_view, word_numbers, word_view}
use Rattle.lp_spec_upf.specs.Shapes.{NameRule, all_commands, shape_of}
use Rattle.lp_spec_upf.specs.Commands.{command_in, options_from}
use Rattle.lp_upf.specs.Named.{name_word, named_by}
use Rattle.lp_upf.specs.States.{tables_view}
use Rattle.lp_upf.specs.Tables.{name_rule_of}
use Rattle.lp_upf.proofs.Behind.{its_name, name_map}
use Rattle.lp_upf.proofs.Carried.{below_more, grown_length, line-grown}
use Rattle.lp_upf.proofs.Determined.{a_sense, is_sense}
use Rattle.lp_upf.proofs.Ready.{ready_tail}
use Rattle.lp_upf.proofs.Saying.{always_named, by_its_word, name_below, split}
use Rattle.lp_upf.proofs.command.command_of.Goals as goal

pub returns-in_ok-rest-in-Some-clause-value : goal.returns-in_ok-rest-in-Some-clause-value
returns-in_ok-rest-in-Some-clause-value c = λ s i.
    let old = c.args.names.now in
    let new = c.rest_of.new.names in
    let words = c.args.words.now in
    let tail = take (length words - 1) (drop 1 words) in
    let word = c.in-Some.word in
    let tables = tables_view old c.args.states.now in
    let more = options_from word s tables (shape_of word).rules c.args.end in
    let some = sym c.is_empty.ensures ∙ c.if-is_empty.false in
    let parts = split words _ some in
    let below = (ready_tail old c.args.states.now words some c.requires).below in
    let rule = (shape_of word).name in
    let name =
    ap (λ (o : Option UpfWord). option_map (word_view new) o) (c.name_of-name.ensures ∙ ap (λ (r : NameRule). name_word r tail) c.name_rule_of.ensures)
    ∙ name_map UpfWord WordView (word_view new) rule tail
    ∙ ap (λ (ws : List WordView). name_word rule ws) (line-grown old new tail c.in_ok-rest-in-Some.ensures.grown below)
    ∙ its_name c.args.end more rule (line_view old tail) in
    let found = c.in-Some.ensures ∙ ap (command_in all_commands) (c.as_bytes.ensures.value ∙ c.text.ensures) in
    c.said_of.ensures.value new (named_by s tables word c.args.end (line_view old tail)) name (c.in_ok-rest-in-Some.ensures.value s i)
    ∙ by_its_word s tables c.args.end old words _ tail word parts found

pub returns-in_ok-rest-in-Some-clause-below : goal.returns-in_ok-rest-in-Some-clause-below
returns-in_ok-rest-in-Some-clause-below c =
    let old = c.args.names.now in
    let new = c.rest_of.new.names in
    let words = c.args.words.now in
    let tail = take (length words - 1) (drop 1 words) in
    let some = sym c.is_empty.ensures ∙ c.if-is_empty.false in
    let below = below_more (length old) (length new) (line_numbers tail) (grown_length old new c.in_ok-rest-in-Some.ensures.grown) (ready_tail old c.args.states.now words some c.requires).below in
    c.said_of.ensures.below (length new)
    (ap (λ (o : Option UpfWord). numbers_below (length new) (option_numbers word_numbers o)) c.name_of-name.ensures ∙ name_below (length new) (name_rule_of c.name_rule_of.result) tail below)
    c.in_ok-rest-in-Some.ensures.below

pub returns-in_ok-rest-in-Some-clause-named : goal.returns-in_ok-rest-in-Some-clause-named
returns-in_ok-rest-in-Some-clause-named c =
    always_named a_sense (tables_view c.args.names.now c.args.states.now) c.args.end c.rest_of.new.names c.said_of.result (line_view c.args.names.now c.args.words.now)
    (returns-in_ok-rest-in-Some-clause-value c a_sense is_sense)
