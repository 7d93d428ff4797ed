use Rattle.std.proofs.Common.{List, sym, ap, ◌∙◌, map}
use Rattle.std.specs.Prelude.{Option}
use Rattle.lp_model.specs.CommandsView.{OptionView, WordView, option_view}
use Rattle.lp_spec_upf.specs.Shapes.{OptionRule}
use Rattle.lp_spec_upf.specs.Commands.{Does, all_faults}
use Rattle.lp_upf.specs.declared.fault.CommandFault.{CommandFault}
use Rattle.lp_upf.specs.Faults.{Judged, fault_view, first_view, least}
use Rattle.lp_upf.specs.Options.{Read}
use Rattle.lp_upf.proofs.Saying.{does, fails}
use Rattle.lp_upf.proofs.command.said_of.Goals as goal

pub returns-in-Some-clause-value : goal.returns-in-Some-clause-value
returns-in-Some-clause-value c = λ names n e h.
    let first =
    ap (λ (o : Option CommandFault). first_view names o) (sym c.in-Some.is)
    ∙ ap (λ (j : Judged). j.first) (c.all_faults-faults.ensures.value names n.rest h)
    ∙ ap (λ (rs : List OptionRule). least (all_faults c.args.place rs n.rest)) c.rules_of.ensures in
    fails _ n.rest.whole _ (fault_view names c.in-Some.fault) first

pub returns-then-rest-clause-value : goal.returns-then-rest-clause-value
returns-then-rest-clause-value c = λ names n e h.
    let first =
    ap (λ (o : Option CommandFault). first_view names o) (sym c.in-None.is)
    ∙ ap (λ (j : Judged). j.first) (c.all_faults-faults.ensures.value names n.rest h)
    ∙ ap (λ (rs : List OptionRule). least (all_faults c.args.place rs n.rest)) c.rules_of.ensures in
    ap (λ (name : Option WordView). Does (record { place = c.args.place; word = c.args.word; name = name; options = map (option_view names) c.args.rest.options })) e
    ∙ ap (λ (os : List OptionView). Does (record { place = c.args.place; word = c.args.word; name = n.name; options = os })) (ap (λ (r : Read). r.options) h)
    ∙ does _ n.rest.whole _ first (sym (ap (λ (r : Read). r.whole) h) ∙ c.if-rest.true)
