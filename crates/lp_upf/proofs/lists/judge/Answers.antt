use Rattle.std.proofs.Common.{ℕ, List, ap, ◌∙◌}
use Rattle.lp_model.specs.CommandsView.{word_view}
use Rattle.lp_upf.specs.Faults.{Judged, faults_view, joined}
use Rattle.lp_upf.specs.Lists.{judge_by, listing, listing_view, next_of}
use Rattle.lp_upf.specs.Tables.{form_of}
use Rattle.lp_upf.specs.declared.fault.Faults.{Faults}
use Rattle.lp_upf.proofs.lists.judge.Goals as goal

pub returns-in-None-clause-value : goal.returns-in-None-clause-value
returns-in-None-clause-value c =
    let names = c.args.names.now in
    let s = listing_view names c.args.listing in
    let w = word_view names c.args.word in
    ap (λ (j : Judged). listing s.form j) (c.joined.ensures.value names ∙ ap (λ (f : Faults). joined s.faults (faults_view names f)) c.of.ensures)
    ∙ ap (judge_by s w) (c.in-None.ensures ∙ ap (λ (text : List ℕ). next_of s.form text) (c.as_bytes.ensures.value ∙ c.text.ensures))

pub returns-in-Some-clause-value : goal.returns-in-Some-clause-value
returns-in-Some-clause-value c =
    let names = c.args.names.now in
    let s = listing_view names c.args.listing in
    let w = word_view names c.args.word in
    ap (λ (j : Judged). listing (form_of c.in-Some.form) j) (c.joined-in-Some.ensures.value names ∙ ap (λ (j : Judged). joined s.faults j) c.element_faults.ensures.value)
    ∙ ap (judge_by s w) (c.in-Some.ensures ∙ ap (λ (text : List ℕ). next_of s.form text) (c.as_bytes.ensures.value ∙ c.text.ensures))
