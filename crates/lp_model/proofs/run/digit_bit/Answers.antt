use Rattle.std.proofs.Common.{arith}
use Rattle.lp_model.proofs.Runs.{length-constant, digit-at}
use Rattle.lp_model.proofs.run.digit_bit.Goals as goal

pub overflow_cast-at : goal.overflow_cast-at
overflow_cast-at c = let len = length-constant c.args.count c.args.number in omega (arith, len)

pub overflow_sub-count-2 : goal.overflow_sub-count-2
overflow_sub-count-2 c = let len = length-constant c.args.count c.args.number in omega (arith, len)

pub returns : goal.returns
returns c = digit-at c.args.count c.args.number c.args.at c.is_one.result c.requires c.is_one.ensures
