use Rattle.std.proofs.Common.{◌<◌, length, arith}
use Rattle.std.specs.Prelude.{slice_index_or}
use Rattle.std.proofs.lemmas.List.{get_or_default}
use Rattle.lp_targets.specs.declared.target.Target.TheVariants.{OfModule}
use Rattle.lp_targets.proofs.Capped.{row_more}
use Rattle.lp_targets.proofs.limits.capped_row.Goals as goal

pub loop-target-preserved : goal.loop-target-preserved
loop-target-preserved c =
    let row = c.args.row.now in
    let i = c.loop-target.target-index in
    let within : i < length row = omega arith in
    let x = slice_index_or row i (OfModule 0) in
    row_more c.args.limit c.args.own c.loop-target.total c.with_target-total.result (λ b. slice_index_or c.args.table.now b 0) row i x within (get_or_default row i (OfModule 0) x within) c.loop-target.invariant c.with_target-total.ensures
