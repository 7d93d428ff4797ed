use Rattle.std.proofs.Common.{◌-◌, ◌+◌}
use Rattle.lp_spec_design.specs.Netlists.{upward}
use Rattle.lp_layout.proofs.Lists.{index_up}
use Rattle.lp_layout.proofs.Named.{bits_more}
use Rattle.lp_layout.proofs.bits.push_upward.Goals as goal

pub loop-k-preserved : goal.loop-k-preserved
loop-k-preserved c =
    let n = c.args.range.right + 1 - c.args.range.left in
    let k = c.loop-k.k in
    let left = c.args.range.left in
    bits_more c.loop-k.nodes c.push.new.self c.args.inst c.args.name (left + k) (upward (n - (k + 1)) (left + (k + 1))) (index_up n k left c.loop-k-test.true) c.named_at.ensures c.in_ok-push.ensures.ok c.loop-k.invariant
