use Rattle.std.proofs.Common.{◌≡◌, ◌≤◌, drop}
use Rattle.lp_verilog_tokens.specs.Constants.{number_behind}
use Rattle.lp_verilog_tokens.proofs.constant.number_of.Given as goal

abbrev pub invariant-loop-byte : goal.invariant-loop-byte
invariant-loop-byte l = record {
  reads : number_behind l.value (drop l.byte-index l.run) ≡ number_behind 0 l.run;
  small : l.value ≤ 4294967295;
}
