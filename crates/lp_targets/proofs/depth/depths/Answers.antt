use Rattle.std.proofs.Common.{◌<◌, length, get_or, ap, ◌∙◌, arith}
use Rattle.std.proofs.lemmas.List.{length-set}
use Rattle.lp_targets.specs.Children.{children}
use Rattle.lp_targets.specs.Sizes.{depth_at}
use Rattle.lp_targets.proofs.Depths.{depth_step, depths_done}
use Rattle.lp_targets.proofs.depth.depths.Goals as goal

pub loop-place-preserved : goal.loop-place-preserved
loop-place-preserved c =
    let rows = c.args.rows.now in
    let order = c.args.order.now in
    let t = c.loop-place.table.items in
    let i = c.loop-place.place-index in
    let within : i < length order = omega (arith, c.loop-place-test.true) in
    record {
      many = ap length c.note_depth.ensures ∙ length-set t (get_or order i 0) (depth_at (children rows) t (get_or order i 0)) ∙ c.loop-place.invariant.many;
      right = λ s top resolved. depth_step s rows order top resolved t c.note_depth.new.table.items i within c.loop-place.invariant.many c.note_depth.ensures (c.loop-place.invariant.right s top resolved);
    }

pub returns : goal.returns
returns c = λ s top resolved.
    depths_done s c.args.rows.now c.args.order.now top resolved c.loop-place.table.items c.loop-place.place-index (omega (arith, c.loop-place-test.false)) (c.loop-place.invariant.right s top resolved)
