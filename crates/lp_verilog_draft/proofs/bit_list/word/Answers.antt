use Rattle.std.proofs.Common.{ℕ, ◌%◌, ◌<◌, ◌^◌, sym, ap, arith}
use Rattle.lp_verilog_draft.proofs.Digits.{high-zero}
use Rattle.lp_verilog_draft.proofs.bit_list.word.Goals as goal

pub returns-else-place-lt128 : goal.returns-else-place-lt128
returns-else-place-lt128 c =
    let small : c.args.value < 2 ^ 128 = omega arith in
    sym (ap (λ (m : ℕ). m % 4294967296) (high-zero c.args.value c.args.place small c.if-place-lt128.false))
