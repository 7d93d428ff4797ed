use Rattle.std.proofs.Common.{◌<◌, length, take, sym, subst, arith}
use Rattle.lp_targets.specs.Marks.{AddsMarks, targets_in, all_targets}
use Rattle.lp_targets.proofs.Marks.{adds, all-more}
use Rattle.lp_targets.proofs.tops.mark_all.Goals as goal

pub loop-module-preserved : goal.loop-module-preserved
loop-module-preserved c =
    let ms = c.args.modules.now in
    let i = c.loop-module.module-index in
    let m = c.module-item.result in
    let within : i < length ms = omega arith in
    subst (AddsMarks c.args.marks.now.items c.mark_row.new.marks.items) (sym (all-more ms i m within c.module-item.is))
    (adds c.args.marks.now.items c.loop-module.marks.items c.mark_row.new.marks.items (all_targets (take i ms)) (targets_in m.instances) c.loop-module.invariant
    (subst (λ xs. AddsMarks c.loop-module.marks.items c.mark_row.new.marks.items (targets_in xs)) c.as_slice.ensures c.in_ok-mark_row.ensures))
