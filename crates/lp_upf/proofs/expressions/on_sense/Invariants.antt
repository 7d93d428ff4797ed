use Rattle.std.proofs.Common.{◌≡◌, drop, map, length, true}
use Rattle.std.specs.List.{flat_map, list_all}
use Rattle.lp_model.specs.declared.upf.OptionWord.TheVariants as words
use Rattle.lp_model.specs.Agreement.{numbers_below}
use Rattle.lp_model.specs.CommandsView.{command_option_numbers, option_view}
use Rattle.lp_spec_upf.specs.Commands.{option_in}
use Rattle.lp_upf.specs.Controls.{has_short}
use Rattle.lp_upf.proofs.expressions.on_sense.Given as goal

abbrev pub invariant-loop-option : goal.invariant-loop-option
invariant-loop-option l = record {
  same : option_in (map (option_view l.names) (drop l.option-index l.options)) words.OnState ≡ option_in (map (option_view l.names) l.options) words.OnState;
  below : numbers_below (length l.names) (flat_map command_option_numbers (drop l.option-index l.options)) ≡ true;
  short : list_all has_short (map (option_view l.names) (drop l.option-index l.options)) ≡ true;
}
