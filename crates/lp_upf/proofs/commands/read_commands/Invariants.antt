use Rattle.std.proofs.Common.{◌≡◌, ◌≤◌, ◌+◌, ◌*◌, [], drop, length, map, true}
use Rattle.std.specs.Prelude.{Option}
use Rattle.std.specs.List.{flat_map, list_all}
use Rattle.lp_text.specs.Texts.{Grown}
use Rattle.lp_model.specs.Agreement.{numbers_below}
use Rattle.lp_model.specs.CommandsView.{line_numbers, line_view, words_view}
use Rattle.lp_upf_words.specs.declared.mode.Stop.{Stop}
use Rattle.lp_upf_words.specs.Sizes.{is_modest, sizes_of_all}
use Rattle.lp_spec_upf.specs.Commands.{Sense, commands_of}
use Rattle.lp_spec_upf.specs.Intent.{IsSense}
use Rattle.lp_upf.specs.Said.{done_numbers}
use Rattle.lp_upf.specs.Turns.{Going}
use Rattle.lp_upf.proofs.commands.read_commands.Given as goal

abbrev pub invariant-loop-at : goal.invariant-loop-at
invariant-loop-at l = record {
  going : (s : Sense) → IsSense s → (stop : Option Stop)
      → Going s l.names l.done (map (line_view l.fn.names) (drop l.at l.words.list.commands)) (drop l.at l.words.ends) (line_view l.fn.names l.words.unfinished) stop
      (commands_of s [] (words_view l.fn.names l.words.list) l.words.ends (line_view l.fn.names l.words.unfinished) stop);
  below : numbers_below (length l.names) (done_numbers l.done) ≡ true;
  grown : Grown l.fn.names l.names;
  few : length l.names + 2 * sizes_of_all (map (line_view l.fn.names) (drop l.at l.words.list.commands)) ≤ length l.fn.names + 2 * sizes_of_all (words_view l.fn.names l.words.list);
  rest : numbers_below (length l.fn.names) (flat_map line_numbers (drop l.at l.words.list.commands)) ≡ true;
  whole : list_all (list_all is_modest) (map (line_view l.fn.names) (drop l.at l.words.list.commands)) ≡ true;
}
