use Rattle.std.proofs.Common.{◌≡◌, ◌+◌, drop}
use Rattle.std.specs.List.{prefix_len}
use Rattle.lp_verilog_tokens.specs.Lexical.{is_number_byte}
use Rattle.lp_verilog_tokens.proofs.bytes.number_len.Given as goal

abbrev pub invariant-loop-at : goal.invariant-loop-at
invariant-loop-at l = prefix_len is_number_byte l.text ≡ l.at + prefix_len is_number_byte (drop l.at l.text)
