use Rattle.std.proofs.Common.{◌++◌, ◌+◌, ◌-◌, ◌%◌, ◌<◌, ◌^◌, arith}
use Rattle.lp_verilog_draft.specs.Values.{constant_bits}
use Rattle.lp_verilog_draft.proofs.Digits.{word-kept}
use Rattle.lp_verilog_draft.proofs.bit_list.BitList.push_constant.Goals as goal

pub loop-left-preserved : goal.loop-left-preserved
loop-left-preserved c =
    let small : c.args.value < 2 ^ 128 = omega arith in
    let left = c.loop-left.left in
    word-kept c.loop-left.self c.push_run.new.self (c.args.self.now ++ constant_bits c.args.size c.args.value) c.args.value left (left - ((left - 1) % 32 + 1)) c.from.result c.word.result small (omega arith) (omega arith) c.word.ensures c.in_ok-push_run.ensures c.loop-left.invariant
