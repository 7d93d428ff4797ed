use Rattle.lp_model.specs.CommandsView.{words_view-grown, commands_view-grown}
use Rattle.lp_model.proofs.laws.grown_names_keep_commands.Goals as goal

pub returns : goal.returns
returns c = record {
  words = λ old new w grown below. words_view-grown old new w grown below;
  commands = λ old new v grown below. commands_view-grown old new v grown below;
}
