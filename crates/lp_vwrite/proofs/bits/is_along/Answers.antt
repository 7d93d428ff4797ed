use Rattle.std.proofs.Common.{arith}
use Rattle.lp_vwrite.proofs.Whole.{along-up, along-down}
use Rattle.lp_vwrite.proofs.bits.is_along.Goals as goal

pub returns-then-first-last-2 : goal.returns-then-first-last-2
returns-then-first-last-2 c = along-up c.args.range.left c.args.range.right c.args.done c.args.first c.args.last c.index_at.result c.index_at.ensures c.requires (omega arith) (omega arith)

pub returns-else-first-last-2 : goal.returns-else-first-last-2
returns-else-first-last-2 c = along-down c.args.range.left c.args.range.right c.args.done c.args.first c.args.last c.index_at.result c.index_at.ensures c.requires (omega arith) (omega arith)
