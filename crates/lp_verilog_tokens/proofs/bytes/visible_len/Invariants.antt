use Rattle.std.proofs.Common.{◌≡◌, ◌+◌, drop}
use Rattle.std.specs.List.{prefix_len}
use Rattle.lp_verilog_tokens.specs.Lexical.{is_visible}
use Rattle.lp_verilog_tokens.proofs.bytes.visible_len.Given as goal

abbrev pub invariant-loop-at : goal.invariant-loop-at
invariant-loop-at l = prefix_len is_visible l.text ≡ l.at + prefix_len is_visible (drop l.at l.text)
