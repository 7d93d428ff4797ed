use Rattle.std.proofs.Common.{arith}
use Rattle.lp_vwrite.proofs.Runs.{size_between}
use Rattle.lp_vwrite.proofs.bits.size.Goals as goal

pub returns : goal.returns
returns c = let size = size_between c.args.range.left c.args.range.right in grind (arith, size)
