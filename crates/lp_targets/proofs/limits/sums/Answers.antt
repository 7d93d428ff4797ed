use Rattle.std.proofs.Common.{◌<◌, length, get_or, ap, ◌∙◌, arith}
use Rattle.std.proofs.lemmas.List.{length-set}
use Rattle.lp_targets.specs.Children.{children}
use Rattle.lp_targets.specs.Sizes.{sum_at}
use Rattle.lp_targets.proofs.Summed.{sum_step, sums_done}
use Rattle.lp_targets.proofs.limits.sums.Goals as goal

pub loop-place-preserved : goal.loop-place-preserved
loop-place-preserved c =
    let rows = c.args.rows.now in
    let order = c.args.order.now in
    let own = c.args.own.now in
    let t = c.loop-place.table.items in
    let i = c.loop-place.place-index in
    let within : i < length order = omega (arith, c.loop-place-test.true) in
    record {
      many = ap length c.note_sum.ensures ∙ length-set t (get_or order i 0) (sum_at (children rows) own c.args.limit t (get_or order i 0)) ∙ c.loop-place.invariant.many;
      right = λ s top resolved each owns. sum_step s rows order top resolved each c.args.limit own owns t c.note_sum.new.table.items i within c.loop-place.invariant.many c.note_sum.ensures (c.loop-place.invariant.right s top resolved each owns);
    }

pub returns : goal.returns
returns c = λ s top resolved each owns.
    sums_done s c.args.rows.now c.args.order.now top resolved each c.args.limit c.args.own.now owns c.loop-place.table.items c.loop-place.place-index (omega (arith, c.loop-place-test.false)) (c.loop-place.invariant.right s top resolved each owns)
