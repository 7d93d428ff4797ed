use Rattle.std.proofs.Common.{List, ap, ◌∙◌, map}
use Rattle.lp_model.specs.declared.upf.CommandOption.{CommandOption}
use Rattle.lp_model.specs.declared.upf.OptionWord.TheVariants as words
use Rattle.lp_model.specs.CommandsView.{name_view, option_view}
use Rattle.lp_spec_upf.specs.Commands.{name_in, on_sense, option_in}
use Rattle.lp_upf.proofs.Sensing.{judged_so}
use Rattle.lp_upf.proofs.expressions.judged_by.Goals as goal

pub returns-in_ok-on-in-Some-clause-value : goal.returns-in_ok-on-in-Some-clause-value
returns-in_ok-on-in-Some-clause-value c =
    let names = c.args.names.now in
    let control = name_view names c.in-Some.control in
    judged_so names c.args.read control c.in_ok-on-in-Some.on c.all_sensed.result c.all_sensed.ensures.options c.all_sensed.ensures.faults c.all_sensed.ensures.whole
    (λ s i. c.in_ok-on-in-Some.ensures s i ∙ ap (λ (os : List CommandOption). on_sense s.of control (option_in (map (option_view names) os) words.OnState)) c.as_slice-in-Some.ensures)
    (c.in-Some.ensures.value names ∙ ap (λ (os : List CommandOption). name_in (map (option_view names) os) words.ControlPort) c.as_slice.ensures)
