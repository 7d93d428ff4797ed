use Rattle.std.proofs.Common.{◌<◌, ◌∷◌, [], ◌++◌, length, ap, ◌∙◌, arith}
use Rattle.std.specs.Prelude.{slice_get}
use Rattle.lp_drivers.specs.Seen.{none_seen, see_all}
use Rattle.lp_drivers.specs.Cells.{places_inside}
use Rattle.lp_drivers.specs.Table.{width_in}
use Rattle.lp_drivers.proofs.Joined.{seen-module}
use Rattle.lp_drivers.proofs.seen.all_seen.Goals as goal

pub loop-place-preserved : goal.loop-place-preserved
loop-place-preserved c =
    let xs = c.args.templates.now in
    let low : c.loop-place.place < length xs = omega (arith, c.loop-place-test.true) in
    c.in_ok-push.ensures.items
    ∙ ap (λ r. r ++ c.in_ok-marks.marks ∷ []) c.loop-place.invariant
    ∙ seen-module c.args.cells.now c.args.modules.now xs c.loop-place.place c.index-templates-place.result c.in_ok-marks.marks low
    (c.in_ok-marks.ensures
    ∙ ap (λ n. see_all (none_seen n) (places_inside c.args.cells.now c.index-templates-place.result)) c.width_at-count.ensures
    ∙ ap (λ x. see_all (none_seen (width_in (slice_get c.args.modules.now c.loop-place.place))) (places_inside c.args.cells.now x)) c.index-templates-place.is)
