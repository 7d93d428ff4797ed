use Rattle.std.proofs.Common.{[], ap, ◌∙◌}
use Rattle.std.specs.List.{list_all}
use Rattle.lp_model.specs.CommandsView.{line_view}
use Rattle.lp_spec_upf.specs.Commands.{Option_}
use Rattle.lp_upf.specs.Controls.{has_short}
use Rattle.lp_upf.specs.Options.{Read}
use Rattle.lp_upf.proofs.Short.{options_short}
use Rattle.lp_upf.proofs.command.options_from.Goals as goal

pub judged_by-requires-clause-short : goal.judged_by-requires-clause-short
judged_by-requires-clause-short c =
    ap (λ (r : Read). list_all has_short r.options) c.in_ok-read.ensures.value
    ∙ options_short _ c.args.end Option_ [] (line_view c.args.names.now c.args.words.now) c.requires.modest
