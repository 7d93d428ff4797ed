use Rattle.std.proofs.Common.{◌||◌, Bool, not, List, [], ◌∷◌, ap, sym, ◌∙◌, map}
use Rattle.std.specs.Prelude.{if◌then◌else◌}
use Rattle.lp_model.specs.declared.upf.OptionWord.{OptionWord}
use Rattle.lp_spec_upf.specs.Commands.{Syntax, lacks_none, words_had}
use Rattle.lp_upf.specs.declared.fault.Faults.{Faults}
use Rattle.lp_upf.specs.Faults.{Judged, faults_view, joined, judged}
use Rattle.lp_upf.specs.Options.{Read}
use Rattle.lp_upf.specs.Tables.{rule_view}
use Rattle.lp_upf.proofs.Judged.{judged-append}
use Rattle.lp_upf.proofs.Run.{had_map}
use Rattle.lp_upf.proofs.needs.all_faults.Goals as goal

pub returns-then-is_complete-clause-value : goal.returns-then-is_complete-clause-value
returns-then-is_complete-clause-value c = λ names p h.
    let rest = c.args.rest.now in
    let rules = map rule_view c.args.rules.now in
    ap (λ (r : Read). r.faults) h
    ∙ ap (λ (b : Bool). judged (if b then p.faults else Syntax c.args.place ∷ p.faults))
    (c.if-is_complete.ensures
    ∙ ap (λ (ws : List OptionWord). not rest.whole || lacks_none rules ws) (sym (had_map names rest.options))
    ∙ ap (λ (r : Read). not r.whole || lacks_none rules (words_had r.options)) h)

pub returns-clause-value : goal.returns-clause-value
returns-clause-value c = λ names p h.
    let rest = c.args.rest.now in
    let rules = map rule_view c.args.rules.now in
    let one = Syntax c.args.place ∷ [] in
    c.joined.ensures.value names
    ∙ ap (λ (f : Faults). joined (faults_view names f) (faults_view names rest.faults)) c.of.ensures
    ∙ ap (λ (j : Judged). joined (judged one) j) (ap (λ (r : Read). r.faults) h)
    ∙ sym (judged-append one p.faults)
    ∙ ap (λ (b : Bool). judged (if b then p.faults else Syntax c.args.place ∷ p.faults))
    (c.if-is_complete.ensures
    ∙ ap (λ (ws : List OptionWord). not rest.whole || lacks_none rules ws) (sym (had_map names rest.options))
    ∙ ap (λ (r : Read). not r.whole || lacks_none rules (words_had r.options)) h)
