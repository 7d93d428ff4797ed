use Rattle.std.proofs.Common.{ap, sym, ◌∙◌, Bool}
use Rattle.std.specs.Prelude.{Option, if◌then◌else◌}
use Rattle.lp_text.specs.declared.place.Place.{Place}
use Rattle.lp_upf_words.specs.declared.mode.Stop.{Stop}
use Rattle.lp_spec_upf.specs.Commands.{Syntax}
use Rattle.lp_upf.specs.Faults.{added, faults_view, joined}
use Rattle.lp_upf.specs.Lists.{ended, listing_view}
use Rattle.lp_upf.specs.declared.fault.Faults.{Faults}
use Rattle.lp_upf.proofs.lists.end.Goals as goal

pub returns-in-Some-clause-value : goal.returns-in-Some-clause-value
returns-in-Some-clause-value c = λ names.
    let s = listing_view names c.args.listing in
    c.joined.ensures.value names
    ∙ ap (λ (f : Faults). joined s.faults (faults_view names f)) c.of.ensures
    ∙ ap (λ (p : Place). added s.faults (Syntax p)) c.stop_place.ensures
    ∙ ap (λ (o : Option Stop). ended s o c.args.place) (sym c.in-Some.is)

pub returns-then-is_short-clause-value : goal.returns-then-is_short-clause-value
returns-then-is_short-clause-value c = λ names.
    let s = listing_view names c.args.listing in
    c.joined-then-is_short.ensures.value names
    ∙ ap (λ (f : Faults). joined s.faults (faults_view names f)) c.of-then-is_short.ensures
    ∙ ap (λ (b : Bool). if b then added s.faults (Syntax c.args.place) else s.faults) c.if-is_short.ensures
    ∙ ap (λ (o : Option Stop). ended s o c.args.place) (sym c.in-None.is)

pub returns-else-is_short-clause-value : goal.returns-else-is_short-clause-value
returns-else-is_short-clause-value c = λ names.
    let s = listing_view names c.args.listing in
    ap (λ (b : Bool). if b then added s.faults (Syntax c.args.place) else s.faults) c.if-is_short.ensures
    ∙ ap (λ (o : Option Stop). ended s o c.args.place) (sym c.in-None.is)
