use Rattle.std.proofs.Common.{ap, sym, ◌∙◌, false}
use Rattle.std.specs.Prelude.{Option}
use Rattle.lp_text.specs.declared.place.Place.{Place}
use Rattle.lp_upf.specs.declared.fault.Faults.{Faults}
use Rattle.lp_upf.specs.declared.options.Next.{Next}
use Rattle.lp_upf.specs.Faults.{Judged, faults_view, joined}
use Rattle.lp_upf.specs.Options.{end_at, ended, next_view, read, reading_view}
use Rattle.lp_upf.proofs.options.ended.Goals as goal

pub returns-in-Some-ValueOf-clause-value : goal.returns-in-Some-ValueOf-clause-value
returns-in-Some-ValueOf-clause-value c = λ names.
    let s = reading_view names c.args.reading in
    ap (λ (j : Judged). read s.options j false) (c.joined.ensures.value names ∙ ap (λ (f : Faults). joined s.faults (faults_view names f)) c.of.ensures)
    ∙ ap (λ (n : Next). end_at (next_view names n) c.in-Some-ValueOf.place s) (sym c.in-Some-ValueOf.is-1)
    ∙ ap (λ (e : Option Place). ended e s) (sym c.in-Some-ValueOf.is-0)
