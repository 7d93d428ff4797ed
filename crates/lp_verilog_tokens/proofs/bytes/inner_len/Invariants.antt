use Rattle.std.proofs.Common.{◌≡◌, ◌+◌, drop}
use Rattle.std.specs.List.{prefix_len}
use Rattle.lp_verilog_tokens.specs.Lexical.{is_inner}
use Rattle.lp_verilog_tokens.proofs.bytes.inner_len.Given as goal

abbrev pub invariant-loop-at : goal.invariant-loop-at
invariant-loop-at l = prefix_len is_inner l.text ≡ l.at + prefix_len is_inner (drop l.at l.text)
