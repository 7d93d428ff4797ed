use Rattle.std.proofs.Common.{◌≡◌, ℕ, List, drop, map}
use Rattle.lp_model.specs.CommandsView.{option_view}
use Rattle.lp_spec_upf.specs.Commands.{count_values, option_in}
use Rattle.lp_upf.proofs.commands.count_of.Given as goal

abbrev pub invariant-loop-option : goal.invariant-loop-option
invariant-loop-option l =
    (names : List (List ℕ)) → count_values (option_in (map (option_view names) (drop l.option-index l.options)) l.word) ≡ count_values (option_in (map (option_view names) l.options) l.word)
