use Rattle.std.proofs.Common.{◌≡◌, ℕ, List, drop, map, true}
use Rattle.std.specs.List.{flat_map}
use Rattle.lp_model.specs.Agreement.{numbers_below}
use Rattle.lp_model.specs.CommandsView.{command_option_numbers, option_view}
use Rattle.lp_spec_upf.specs.Commands.{name_in}
use Rattle.lp_upf.proofs.named.name_in.Given as goal

abbrev pub invariant-loop-option : goal.invariant-loop-option
invariant-loop-option l = record {
  value : (names : List (List ℕ)) → name_in (map (option_view names) (drop l.option-index l.options)) l.word ≡ name_in (map (option_view names) l.options) l.word;
  below : (n : ℕ) → numbers_below n (flat_map command_option_numbers l.options) ≡ true → numbers_below n (flat_map command_option_numbers (drop l.option-index l.options)) ≡ true;
}
