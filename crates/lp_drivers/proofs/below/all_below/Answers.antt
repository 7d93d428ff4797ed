use Rattle.std.proofs.Common.{◌<◌, ◌≤◌, None, length, get_or, replicate, sym, ap, ◌∙◌, arith}
use Rattle.std.specs.Prelude.{slice_index_or}
use Rattle.std.proofs.lemmas.List.{length-set, take_all}
use Rattle.lp_drivers.specs.Table.{below_by, no_template, note, note_all}
use Rattle.lp_drivers.proofs.Noted.{note-next}
use Rattle.lp_drivers.proofs.below.all_below.Goals as goal

pub loop-place-preserved : goal.loop-place-preserved
loop-place-preserved c =
    let order = c.args.order.now in
    let seen = c.args.seen.now in
    let templates = c.args.templates.now in
    let t = c.loop-place.table.items in
    let i = c.loop-place.place-index in
    let low : i < length order = omega (arith, c.loop-place-test.true) in
    record {
      many = ap length c.note_below.ensures ∙ length-set t (get_or order i 0) (below_by seen t (slice_index_or templates (get_or order i 0) no_template)) ∙ c.loop-place.invariant.many;
      noted =
          c.note_below.ensures
          ∙ ap (λ u. note c.args.seen.now c.args.templates.now u (get_or c.args.order.now c.loop-place.place-index 0)) c.loop-place.invariant.noted
          ∙ sym (note-next seen templates (replicate (length c.args.templates.now) None) order i low);
    }

pub returns : goal.returns
returns c =
    let order = c.args.order.now in
    let all : length order ≤ c.loop-place.place-index = omega (arith, c.loop-place-test.false) in
    c.loop-place.invariant.noted
    ∙ ap (note_all c.args.seen.now c.args.templates.now (replicate (length c.args.templates.now) None)) (take_all c.loop-place.place-index order all)
