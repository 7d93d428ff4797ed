use Rattle.std.proofs.Common.{◌≡◌, drop}
use Rattle.lp_verilog_tokens.specs.Constants.{value_behind}
use Rattle.lp_verilog_tokens.proofs.constant.value_of.Given as goal

abbrev pub invariant-loop-byte : goal.invariant-loop-byte
invariant-loop-byte l = value_behind l.base l.value (drop l.byte-index l.digits) ≡ value_behind l.base 0 l.digits
