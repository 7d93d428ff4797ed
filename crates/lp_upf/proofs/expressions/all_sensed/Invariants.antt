use Rattle.std.proofs.Common.{◌≡◌, ◌++◌, drop, map, length, true}
use Rattle.std.specs.List.{flat_map, list_all}
use Rattle.lp_model.specs.Agreement.{numbers_below}
use Rattle.lp_model.specs.CommandsView.{command_option_numbers, name_view, option_view}
use Rattle.lp_spec_upf.specs.Commands.{Sense, expression_faults, sensed}
use Rattle.lp_spec_upf.specs.Intent.{IsSense}
use Rattle.lp_upf.specs.Controls.{has_short}
use Rattle.lp_upf.specs.Faults.{faults_view, first_numbers, joined, judged}
use Rattle.lp_upf.proofs.expressions.all_sensed.Given as goal

abbrev pub invariant-loop-option : goal.invariant-loop-option
invariant-loop-option l = record {
  options : (s : Sense) → IsSense s
      → map (option_view l.names) l.options ++ sensed s.of (name_view l.names l.control) (map (option_view l.names) (drop l.option-index l.read.options))
      ≡ sensed s.of (name_view l.names l.control) (map (option_view l.names) l.read.options);
  faults : (s : Sense) → IsSense s
      → joined (faults_view l.names l.faults) (judged (expression_faults s.of (name_view l.names l.control) l.on (map (option_view l.names) (drop l.option-index l.read.options))))
      ≡ joined (faults_view l.names l.read.faults) (judged (expression_faults s.of (name_view l.names l.control) l.on (map (option_view l.names) l.read.options)));
  rest : numbers_below (length l.names) (flat_map command_option_numbers (drop l.option-index l.read.options)) ≡ true;
  short : list_all has_short (map (option_view l.names) (drop l.option-index l.read.options)) ≡ true;
  done : numbers_below (length l.names) (flat_map command_option_numbers l.options) ≡ true;
  found : numbers_below (length l.names) (first_numbers l.faults.first) ≡ true;
}
