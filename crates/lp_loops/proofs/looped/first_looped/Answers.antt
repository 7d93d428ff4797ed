use Rattle.std.proofs.Common.{arith}
use Rattle.lp_loops.proofs.SearchLaws.{looped_none}
use Rattle.lp_loops.proofs.looped.first_looped.Goals as goal

pub returns : goal.returns
returns c = looped_none c.args.graph.now c.loop-root.root (omega (arith, c.len-root-end.ensures, c.loop-root-test.false)) c.loop-root.invariant
