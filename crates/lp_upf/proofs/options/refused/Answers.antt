use Rattle.std.proofs.Common.{ap, ◌∙◌}
use Rattle.lp_model.specs.Agreement.{numbers_below}
use Rattle.lp_upf.specs.declared.fault.Faults.{Faults}
use Rattle.lp_upf.specs.Faults.{Judged, faults_view, first_numbers, joined}
use Rattle.lp_upf.specs.Options.{reading, reading_view}
use Rattle.lp_upf.proofs.Carried.{faults_part, one, with_faults}
use Rattle.lp_upf.proofs.options.refused.Goals as goal

pub returns-clause-value : goal.returns-clause-value
returns-clause-value c = λ names.
    let s = reading_view names c.args.reading in
    ap (λ (j : Judged). reading s.next s.options j)
    (c.joined.ensures.value names
    ∙ ap (λ (f : Faults). joined s.faults (faults_view names f)) c.of.ensures
    ∙ ap (λ (j : Judged). joined s.faults j) (one names c.args.fault))

pub returns-clause-below : goal.returns-clause-below
returns-clause-below c = λ n h k.
    with_faults n c.args.reading c.joined.result h
    (c.joined.ensures.numbers n (faults_part n c.args.reading h) (ap (λ (f : Faults). numbers_below n (first_numbers f.first)) c.of.ensures ∙ k))
