use Rattle.std.proofs.Common.{◌≡◌, ◌+◌, ◌≤◌, true, length, drop}
use Rattle.lp_text.specs.Texts.{Grown}
use Rattle.lp_verilog.specs.Reading.{read_rest}
use Rattle.lp_verilog_grammar.specs.Machine.{start}
use Rattle.lp_verilog.proofs.reading.read_modules.Given as goal

abbrev pub invariant-loop-byte : goal.invariant-loop-byte
invariant-loop-byte l = record {
  reads : read_rest (drop l.byte-index l.bytes) (length l.bytes) l.fresh l.rest l.names l.reader ≡ read_rest l.bytes (length l.bytes) true l.bytes l.fn.names start;
  grown : Grown l.fn.names l.names;
  few : length l.names ≤ length l.fn.names + l.byte-index;
  within : length l.rest ≤ length l.bytes;
}
