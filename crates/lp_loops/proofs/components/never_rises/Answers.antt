use Rattle.std.proofs.Common.{sym, ◌∙◌}
use Rattle.lp_loops.proofs.Rising.{one_more}
use Rattle.lp_loops.proofs.components.never_rises.Goals as goal

pub loop-key-preserved : goal.loop-key-preserved
loop-key-preserved c =
    one_more c.args.graph.now c.args.components.now c.loop-key.key c.at.result c.row.result.now c.row.ensures c.at.ensures (sym c.are_within.ensures ∙ c.if-not-are_within.false) c.loop-key.invariant
