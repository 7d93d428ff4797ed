use Rattle.std.proofs.Common.{arith}
use Rattle.lp_model.proofs.Runs.{size_between}
use Rattle.lp_model.proofs.run.count_between.Goals as goal

pub returns-clause-count : goal.returns-clause-count
returns-clause-count c = let size = size_between c.args.first c.args.last in grind (arith, size)
