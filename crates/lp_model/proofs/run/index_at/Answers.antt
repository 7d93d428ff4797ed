use Rattle.std.proofs.Common.{arith}
use Rattle.lp_model.proofs.Runs.{length-between-up, length-between-down, between-up, between-down}
use Rattle.lp_model.proofs.run.index_at.Goals as goal

pub overflow_cast-result : goal.overflow_cast-result
overflow_cast-result c = let len = length-between-up c.args.first c.args.last c.if-first-last.true in omega (arith, len)

pub overflow_add-result : goal.overflow_add-result
overflow_add-result c = let len = length-between-up c.args.first c.args.last c.if-first-last.true in omega (arith, len)

pub overflow_cast-result-else-first-last : goal.overflow_cast-result-else-first-last
overflow_cast-result-else-first-last c = let len = length-between-down c.args.first c.args.last c.if-first-last.false in omega (arith, len)

pub overflow_sub-result : goal.overflow_sub-result
overflow_sub-result c = let len = length-between-down c.args.first c.args.last c.if-first-last.false in omega (arith, len)

pub returns-then-first-last : goal.returns-then-first-last
returns-then-first-last c = between-up c.args.first c.args.last c.args.steps c.if-first-last.true c.requires

pub returns-else-first-last : goal.returns-else-first-last
returns-else-first-last c = between-down c.args.first c.args.last c.args.steps c.if-first-last.false c.requires
