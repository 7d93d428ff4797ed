use Rattle.std.proofs.Common.{◌≡◌, ◌+◌, ◌-◌, ◌≤◌, length, drop}
use Rattle.lp_text.specs.Texts.{Grown}
use Rattle.lp_liberty.specs.Tokens.{tokens_of, tokens_from}
use Rattle.lp_liberty.specs.Machine.{context_of, read_in, start}
use Rattle.lp_liberty.proofs.run.run.Given as goal

abbrev pub invariant-loop-round : goal.invariant-loop-round
invariant-loop-round l = record {
  reads : read_in (length l.text) l.names l.reader (tokens_from (length l.text - l.round) (context_of l.reader.mode) l.at (drop l.at l.text)) ≡ read_in (length l.text) l.fn.names start (tokens_of l.text);
  inside : l.at ≤ length l.text;
  groups : length l.reader.groups ≤ l.round;
  grown : Grown l.fn.names l.names;
  few : length l.names ≤ length l.fn.names + l.round;
}
