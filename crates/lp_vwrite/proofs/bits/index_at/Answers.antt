use Rattle.std.proofs.Common.{arith, sym}
use Rattle.lp_vwrite.proofs.Runs.{length-between-up, length-between-down, between-up, between-down}
use Rattle.lp_vwrite.proofs.bits.index_at.Goals as goal

pub overflow_cast-result : goal.overflow_cast-result
overflow_cast-result c = let len = length-between-up c.args.range.left c.args.range.right c.if-range.true in omega (arith, len)

pub overflow_add-result : goal.overflow_add-result
overflow_add-result c = let len = length-between-up c.args.range.left c.args.range.right c.if-range.true in omega (arith, len)

pub overflow_cast-result-else-range : goal.overflow_cast-result-else-range
overflow_cast-result-else-range c = let len = length-between-down c.args.range.left c.args.range.right c.if-range.false in omega (arith, len)

pub overflow_sub-result : goal.overflow_sub-result
overflow_sub-result c = let len = length-between-down c.args.range.left c.args.range.right c.if-range.false in omega (arith, len)

pub returns-then-range : goal.returns-then-range
returns-then-range c =
    let len = length-between-up c.args.range.left c.args.range.right c.if-range.true in
    sym (between-up c.args.range.left c.args.range.right c.args.steps c.if-range.true (omega (arith, len)))

pub returns-else-range : goal.returns-else-range
returns-else-range c =
    let len = length-between-down c.args.range.left c.args.range.right c.if-range.false in
    sym (between-down c.args.range.left c.args.range.right c.args.steps c.if-range.false (omega (arith, len)))
