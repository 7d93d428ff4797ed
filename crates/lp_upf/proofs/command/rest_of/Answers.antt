use Rattle.std.proofs.Common.{List, ap, sym, ◌∙◌, subst, length, arith}
use Rattle.lp_model.specs.declared.upf.UpfWord.{UpfWord}
use Rattle.lp_model.specs.CommandsView.{WordView, line_view, word_view}
use Rattle.lp_upf_words.specs.Sizes.{sizes}
use Rattle.lp_spec_upf.specs.Shapes.{NameRule, shape_of}
use Rattle.lp_spec_upf.specs.Commands.{TableOf, named_of, options_from}
use Rattle.lp_upf.specs.Faults.{faults_view, first_numbers}
use Rattle.lp_upf.specs.Named.{AreReady, behind_word, faults_of_name}
use Rattle.lp_upf.specs.Options.{options_view, read_of}
use Rattle.lp_upf.specs.States.{tables_view}
use Rattle.lp_upf.specs.Tables.{name_rule_of}
use Rattle.lp_upf.proofs.Behind.{after_name, nameless_map, within}
use Rattle.lp_upf.proofs.Carried.{below_more, faults-grown, grown_length}
use Rattle.lp_upf.proofs.Ready.{behind_same, ready_behind}
use Rattle.lp_upf.proofs.Rows.{tables-grown}
use Rattle.lp_upf.proofs.command.rest_of.Goals as goal

pub options_from-requires : goal.options_from-requires
options_from-requires c =
    let new = c.faults_of_name.new.names in
    let rule = name_rule_of c.name_rule_of-rule.result in
    subst (λ (ws : List UpfWord). AreReady new c.args.states.now ws) (sym c.behind_name.ensures)
    (ready_behind c.args.names.now new c.args.states.now c.args.words.now c.in_ok-faults.ensures.grown c.requires rule c.in_ok-faults.ensures.few)

pub returns-in_err-rest-clause-few : goal.returns-in_err-rest-clause-few
returns-in_err-rest-clause-few c =
    let new = c.faults_of_name.new.names in
    let rule = name_rule_of c.name_rule_of-rule.result in
    let same = ap (λ (ws : List UpfWord). sizes (line_view new ws)) c.behind_name.ensures ∙ ap (λ (ws : List WordView). sizes ws) (behind_same c.args.names.now new c.args.states.now c.args.words.now c.in_ok-faults.ensures.grown c.requires rule) in
    let few = c.in_ok-faults.ensures.few in
    let more = c.in_err-rest.ensures.few in
    omega (arith, same, few, more)

pub returns-clause-few : goal.returns-clause-few
returns-clause-few c =
    let new = c.faults_of_name.new.names in
    let rule = name_rule_of c.name_rule_of-rule.result in
    let same = ap (λ (ws : List UpfWord). sizes (line_view new ws)) c.behind_name.ensures ∙ ap (λ (ws : List WordView). sizes ws) (behind_same c.args.names.now new c.args.states.now c.args.words.now c.in_ok-faults.ensures.grown c.requires rule) in
    let few = c.in_ok-faults.ensures.few in
    let more = c.in_ok-rest.ensures.few in
    omega (arith, same, few, more)

pub returns-clause-below : goal.returns-clause-below
returns-clause-below c =
    let new = c.faults_of_name.new.names in
    let last = c.options_from.new.names in
    c.with_faults.ensures.below (length last)
    (below_more (length new) (length last) (first_numbers c.in_ok-faults.faults.first) (grown_length new last c.in_ok-rest.ensures.grown) c.in_ok-faults.ensures.numbers)
    c.in_ok-rest.ensures.below

pub returns-clause-value : goal.returns-clause-value
returns-clause-value c = λ s i.
    let old = c.args.names.now in
    let new = c.faults_of_name.new.names in
    let last = c.options_from.new.names in
    let es = c.args.states.now in
    let word = c.args.word in
    let rules = (shape_of word).rules in
    let words = line_view old c.args.words.now in
    let rule = name_rule_of c.name_rule_of-rule.result in
    let more = options_from word s (tables_view old es) rules c.args.end in
    let tables = tables-grown old new es c.in_ok-faults.ensures.grown c.requires.tables in
    let behind = ap (λ (ws : List UpfWord). line_view new ws) c.behind_name.ensures ∙ behind_same old new es c.args.words.now c.in_ok-faults.ensures.grown c.requires rule in
    let rest =
    c.in_ok-rest.ensures.value s i
    ∙ ap (λ (ts : List TableOf). read_of (options_from word s ts rules c.args.end (line_view new c.behind_name.result.now))) tables
    ∙ ap (λ (ws : List WordView). read_of (more ws)) behind in
    let found = faults-grown new last c.in_ok-faults.faults c.in_ok-rest.ensures.grown c.in_ok-faults.ensures.numbers ∙ c.in_ok-faults.ensures.value in
    let named = nameless_map UpfWord WordView (word_view old) rule c.args.words.now ∙ sym c.is_nameless.ensures ∙ c.if-is_nameless.false in
    c.with_faults.ensures.value last
    ∙ after_name (faults_of_name rule words) (more (behind_word rule words)) (faults_view last c.in_ok-faults.faults) (options_view last c.in_ok-rest.rest) found c.if-faults.false rest
    ∙ ap read_of (sym (within c.args.end more rule words named))
    ∙ ap (λ (r : NameRule). read_of (named_of r c.args.end more words).rest) c.name_rule_of-rule.ensures
