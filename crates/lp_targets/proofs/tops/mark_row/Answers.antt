use Rattle.std.proofs.Common.{◌<◌, ◌∷◌, [], length, take, sym, subst, arith}
use Rattle.lp_targets.specs.Marks.{AddsMarks, targets_in}
use Rattle.lp_targets.proofs.Marks.{adds, targets-more}
use Rattle.lp_targets.proofs.tops.mark_row.Goals as goal

pub loop-instance-preserved : goal.loop-instance-preserved
loop-instance-preserved c =
    let xs = c.args.instances.now in
    let i = c.loop-instance.instance-index in
    let x = c.instance-item.result in
    let within : i < length xs = omega arith in
    subst (AddsMarks c.args.marks.now.items c.mark.new.marks.items) (sym (targets-more xs i x within c.instance-item.is))
    (adds c.args.marks.now.items c.loop-instance.marks.items c.mark.new.marks.items (targets_in (take i xs)) (x.target.0 ∷ []) c.loop-instance.invariant c.in_ok-mark.ensures)
