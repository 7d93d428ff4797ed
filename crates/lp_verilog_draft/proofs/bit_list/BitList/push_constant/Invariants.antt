use Rattle.std.proofs.Common.{◌≡◌, ◌++◌}
use Rattle.lp_verilog_draft.specs.Values.{constant_bits}
use Rattle.lp_verilog_draft.proofs.bit_list.BitList.push_constant.Given as goal

abbrev pub invariant-loop-left : goal.invariant-loop-left
invariant-loop-left l = l.self ++ constant_bits l.left l.value ≡ l.fn.self ++ constant_bits l.fn.size l.value

abbrev pub decreases-loop-left : goal.decreases-loop-left
decreases-loop-left l = l.left
