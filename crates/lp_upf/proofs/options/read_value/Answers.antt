use Rattle.std.proofs.Common.{List, ap, sym, ◌∙◌}
use Rattle.std.specs.Prelude.{Option}
use Rattle.lp_model.specs.CommandsView.{WordView, line_view, word_view}
use Rattle.lp_upf_words.specs.declared.mode.Stop.{Stop}
use Rattle.lp_upf_words.specs.Elements.{content_end, elements_of, words_of}
use Rattle.lp_spec_upf.specs.Commands.{list_faults, value_faults}
use Rattle.lp_upf.specs.declared.tables.Value.{Value}
use Rattle.lp_upf.specs.Faults.{judged}
use Rattle.lp_upf.specs.Tables.{form_of, value_of}
use Rattle.lp_upf.proofs.Carried.{at_its_end}
use Rattle.lp_upf.proofs.options.read_value.Goals as goal

pub returns-in_ok-elements-in-Listed-clause-faults :
    goal.returns-in_ok-elements-in-Listed-clause-faults
returns-in_ok-elements-in-Listed-clause-faults c =
    let w = word_view c.args.names.now c.args.word in
    let o = word_view c.args.names.now c.args.option in
    let e = c.in_ok-elements-in-Listed.elements in
    let r = c.in_ok-elements-in-Listed.ensures.ok in
    let f = form_of c.in-Listed.form in
    let new = c.read_elements.new.names in
    c.list_faults-faults.ensures.value
    ∙ ap judged
    (at_its_end f (line_view new e.words) e.stop e.end (content_end w) r.end
    ∙ ap (λ (ws : List WordView). list_faults f ws e.stop (content_end w)) r.words
    ∙ ap (λ (x : Option Stop). list_faults f (words_of (elements_of w)) x (content_end w)) r.stop)
    ∙ ap (λ (v : Value). judged (value_faults (value_of v) o w)) (sym c.in-Listed.is)
