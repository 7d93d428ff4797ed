use Rattle.std.proofs.Common.{◌<◌, length, take, sym, subst, arith}
use Rattle.std.specs.Prelude.{slice_index_or}
use Rattle.std.proofs.lemmas.List.{get_or_default}
use Rattle.lp_targets.specs.declared.target.Target.TheVariants.{OfModule}
use Rattle.lp_targets.specs.Children.{children_of}
use Rattle.lp_targets.proofs.Depths.{above_some, depth_more}
use Rattle.lp_targets.proofs.depth.depth_of.Goals as goal

pub with_target-depth-requires : goal.with_target-depth-requires
with_target-depth-requires c =
    subst (λ d. 0 < d) (sym c.loop-target.invariant) (above_some (λ b. slice_index_or c.args.table.now b 0) (children_of (take c.loop-target.target-index c.args.row.now)))

pub loop-target-preserved : goal.loop-target-preserved
loop-target-preserved c =
    let row = c.args.row.now in
    let i = c.loop-target.target-index in
    let within : i < length row = omega arith in
    let x = slice_index_or row i (OfModule 0) in
    depth_more (λ b. slice_index_or c.args.table.now b 0) row i x c.loop-target.depth c.with_target-depth.result within (get_or_default row i (OfModule 0) x within) c.loop-target.invariant c.with_target-depth.ensures
