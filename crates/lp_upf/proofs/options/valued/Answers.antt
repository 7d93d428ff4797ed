use Rattle.std.proofs.Common.{◌≡◌, Bool, true, List, ap, sym, ◌∙◌, ◌++◌, ◌∷◌, [], map}
use Rattle.std.specs.Prelude.{if◌then◌else◌, None}
use Rattle.std.specs.List.{flat_map}
use Rattle.std.proofs.lemmas.List.{map-append}
use Rattle.lp_model.specs.declared.upf.CommandOption.{CommandOption}
use Rattle.lp_model.specs.Agreement.{numbers_below}
use Rattle.lp_model.specs.CommandsView.{OptionView, command_option_numbers, option_view}
use Rattle.lp_spec_upf.specs.Commands.{Option_, is_any_syntax}
use Rattle.lp_upf.specs.Faults.{Judged, faults_view, first_numbers, joined, judged}
use Rattle.lp_upf.specs.Options.{reading, reading_view}
use Rattle.lp_upf.proofs.Carried.{faults_part, with_faults, with_option}
use Rattle.lp_upf.proofs.options.valued.Goals as goal

pub returns-then-given-clause-value : goal.returns-then-given-clause-value
returns-then-given-clause-value c = λ names fs o h e.
    let s = reading_view names c.args.reading in
    let is_cut : is_any_syntax fs ≡ true = sym (ap (λ (j : Judged). j.cut) h) ∙ c.if-given.true in
    ap (λ (j : Judged). reading s.next s.options j) (c.joined-faults.ensures.value names ∙ ap (λ (j : Judged). joined s.faults j) h)
    ∙ ap (λ (b : Bool). if b then reading s.next s.options (joined s.faults (judged fs)) else reading Option_ (s.options ++ o ∷ []) (joined s.faults (judged fs))) (sym is_cut)

pub returns-then-given-clause-below : goal.returns-then-given-clause-below
returns-then-given-clause-below c = λ n h v k. with_faults n c.args.reading c.joined-faults.result h (c.joined-faults.ensures.numbers n (faults_part n c.args.reading h) k)

pub returns-clause-value : goal.returns-clause-value
returns-clause-value c = λ names fs o h e.
    let s = reading_view names c.args.reading in
    let going = sym (ap (λ (j : Judged). j.cut) h) ∙ c.if-given.false in
    let more = ap (λ (os : List CommandOption). map (option_view names) os) c.in_ok-push.ensures.ok ∙ map-append (option_view names) c.args.reading.options _ ∙ ap (λ (v : OptionView). s.options ++ v ∷ []) (sym e) in
    ap (λ (os : List OptionView). reading Option_ os (faults_view names c.joined-faults.result)) more
    ∙ ap (λ (j : Judged). reading Option_ (s.options ++ o ∷ []) j) (c.joined-faults.ensures.value names ∙ ap (λ (j : Judged). joined s.faults j) h)
    ∙ ap (λ (b : Bool). if b then reading s.next s.options (joined s.faults (judged fs)) else reading Option_ (s.options ++ o ∷ []) (joined s.faults (judged fs))) (sym going)

pub returns-clause-below : goal.returns-clause-below
returns-clause-below c = λ n h v k.
    let o : CommandOption = record { values = c.args.given.words; place = c.args.option.place; word = c.args.rule.word; high = None } in
    ap (λ (os : List CommandOption). numbers_below n (flat_map command_option_numbers os ++ first_numbers c.joined-faults.result.first)) c.in_ok-push.ensures.ok
    ∙ with_option n c.args.reading o c.joined-faults.result h v (c.joined-faults.ensures.numbers n (faults_part n c.args.reading h) k)
