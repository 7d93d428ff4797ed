use Rattle.std.proofs.Common.{◌≡◌, ◌+◌, ◌≤◌, length, drop, map, true, []}
use Rattle.std.specs.List.{list_all}
use Rattle.lp_text.specs.Texts.{Grown}
use Rattle.lp_model.specs.Agreement.{numbers_below}
use Rattle.lp_model.specs.CommandsView.{line_numbers, line_view}
use Rattle.lp_upf_words.specs.Sizes.{is_modest, sizes}
use Rattle.lp_spec_upf.specs.Commands.{Option_, options_of}
use Rattle.lp_upf.specs.Options.{read_of, reading_numbers, reading_view, run}
use Rattle.lp_upf.specs.Tables.{rule_view}
use Rattle.lp_upf.proofs.options.options_of.Given as goal

abbrev pub invariant-loop-word : goal.invariant-loop-word
invariant-loop-word l = record {
  reads :
      run (map rule_view l.rules) l.end (reading_view l.names l.reading) (line_view l.fn.names (drop l.word-index l.words))
      ≡ read_of (options_of (map rule_view l.rules) l.end Option_ [] (line_view l.fn.names l.words));
  below : numbers_below (length l.names) (reading_numbers l.reading) ≡ true;
  rest_below : numbers_below (length l.fn.names) (line_numbers (drop l.word-index l.words)) ≡ true;
  modest : list_all is_modest (line_view l.fn.names (drop l.word-index l.words)) ≡ true;
  grown : Grown l.fn.names l.names;
  few : length l.names + sizes (line_view l.fn.names (drop l.word-index l.words)) ≤ length l.fn.names + sizes (line_view l.fn.names l.words);
}
