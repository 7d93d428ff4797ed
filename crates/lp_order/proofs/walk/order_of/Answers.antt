use Rattle.std.proofs.Common.{arith}
use Rattle.lp_order.proofs.WalkLemmas.{IsOrder-from_walk}
use Rattle.lp_order.proofs.walk.order_of.Goals as goal

pub returns : goal.returns
returns c = IsOrder-from_walk c.args.graph.now c.loop-root.walk c.loop-root.root c.loop-root.invariant (omega arith)
