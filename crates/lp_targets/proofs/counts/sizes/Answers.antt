use Rattle.std.proofs.Common.{◌<◌, length, subst}
use Rattle.lp_targets.proofs.OverLimits.{size_more, take_whole}
use Rattle.lp_targets.proofs.counts.sizes.Goals as goal

pub loop-place-preserved : goal.loop-place-preserved
loop-place-preserved c = λ s many right.
    let low : c.loop-place.place < length s.modules = subst (λ n. c.loop-place.place < n) many c.loop-place-test.true in
    size_more s c.args.counts.now c.loop-place.sizes.items c.push.new.self.items c.loop-place.place c.size_at.result right low c.size_at.ensures (c.loop-place.invariant s many right) c.in_ok-push.ensures.items

pub returns : goal.returns
returns c = λ s many right. take_whole s c.args.count c.loop-place.sizes.items c.loop-place.place many c.loop-place-test.false (c.loop-place.invariant s many right)
