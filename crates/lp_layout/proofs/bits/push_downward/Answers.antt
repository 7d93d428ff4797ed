use Rattle.std.proofs.Common.{◌-◌, ◌+◌}
use Rattle.lp_spec_design.specs.Netlists.{downward}
use Rattle.lp_layout.proofs.Lists.{index_down}
use Rattle.lp_layout.proofs.Named.{bits_more}
use Rattle.lp_layout.proofs.bits.push_downward.Goals as goal

pub loop-k-preserved : goal.loop-k-preserved
loop-k-preserved c =
    let n = c.args.range.left + 1 - c.args.range.right in
    let k = c.loop-k.k in
    let left = c.args.range.left in
    bits_more c.loop-k.nodes c.push.new.self c.args.inst c.args.name (left - k) (downward (n - (k + 1)) (left - (k + 1))) (index_down n k left c.loop-k-test.true) c.named_at.ensures c.in_ok-push.ensures.ok c.loop-k.invariant
