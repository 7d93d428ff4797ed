use Rattle.std.proofs.Common.{List, ap, map, ◌∙◌}
use Rattle.lp_model.specs.declared.upf.CommandOption.{CommandOption}
use Rattle.lp_model.specs.declared.upf.OptionWord.TheVariants as options
use Rattle.lp_model.specs.CommandsView.{option_view}
use Rattle.lp_spec_upf.specs.Commands.{count_values, option_in}
use Rattle.lp_upf.specs.States.{tables_view}
use Rattle.lp_upf.proofs.Adding.{added}
use Rattle.lp_upf.proofs.commands.add_table.Goals as goal

pub returns-in-CreatePst-Some-clause-same : goal.returns-in-CreatePst-Some-clause-same
returns-in-CreatePst-Some-clause-same c =
    let names = c.args.names.now in
    added c.add.result names (tables_view names c.args.states.now) (tables_view names c.add.new.self) c.args.command.now c.in-CreatePst-Some.name c.count_of-supplies.result
    c.in-CreatePst-Some.is-0 c.in-CreatePst-Some.is-1
    (c.count_of-supplies.ensures names ∙ ap (λ (os : List CommandOption). count_values (option_in (map (option_view names) os) options.Supplies)) c.as_slice.ensures)
    c.add.ensures.same
