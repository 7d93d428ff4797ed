use Rattle.std.proofs.Common.{◌≡◌, ◌+◌, ◌≤◌, length, drop, true}
use Rattle.lp_text.specs.Places.{past}
use Rattle.lp_text.specs.Texts.{Grown}
use Rattle.lp_model.specs.Agreement.{numbers_below}
use Rattle.lp_upf_words.specs.Elements.{kind_in}
use Rattle.lp_upf_words.specs.Reading.{read, size_of}
use Rattle.lp_upf_words.specs.Views.{numbers_of, state_of}
use Rattle.lp_upf_words.proofs.read.run.Given as goal

abbrev pub invariant-loop-byte : goal.invariant-loop-byte
invariant-loop-byte l = record {
  reads : read (kind_in l.list) (state_of l.names l.reader) (drop l.byte-index l.text) ≡ read (kind_in l.list) (state_of l.fn.names l.fn.reader) l.text;
  past_it : past l.reader.here (drop l.byte-index l.text) ≡ past l.fn.reader.here l.text;
  below : numbers_below (length l.names) (numbers_of l.reader) ≡ true;
  grown : Grown l.fn.names l.names;
  few : length l.names + size_of l.reader.mode ≤ length l.fn.names + l.byte-index;
  line : l.reader.here.line ≤ l.byte-index + l.fn.reader.here.line;
  column : l.reader.here.column ≤ l.byte-index + l.fn.reader.here.column;
}
