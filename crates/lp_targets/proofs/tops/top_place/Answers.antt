use Rattle.std.proofs.Common.{◌≡◌, None, sym, ap, ◌∙◌, subst}
use Rattle.lp_spec_design.specs.Netlists.{first}
use Rattle.lp_targets.specs.Structures.{structure_of}
use Rattle.lp_targets.specs.Reports.{top_report, IsStop}
use Rattle.lp_targets.specs.Marks.{is_free, count_free}
use Rattle.lp_targets.proofs.Marks.{tops_counted, one_top, more_tops, top_at, some_passes}
use Rattle.lp_targets.proofs.tops.top_place.Goals as goal

pub returns-then-count-ne1-clause-err : goal.returns-then-count-ne1-clause-err
returns-then-count-ne1-clause-err c =
    let ms = c.as_slice-modules.result.now in
    let counted = c.count_free-count.ensures ∙ ap (λ marks. count_free marks ms) c.as_slice.ensures.value ∙ tops_counted c.in_ok-marks.marks.items ms c.in_ok-marks.ensures in
    λ l. subst (IsStop c.args.names.now (top_report (structure_of c.args.names.now c.args.netlist.now l))) (sym c.from.ensures)
    (more_tops c.args.names.now c.count.ensures.distinct c.args.netlist.now c.requires.netlist l ms c.as_slice-modules.ensures c.count_free-count.result counted c.if-count-ne1.true)

pub unreachable-requires : goal.unreachable-requires
unreachable-requires c =
    let ms = c.as_slice-modules.result.now in
    let marks = c.in_ok-marks.marks.items in
    let count = sym (c.count_free-count.ensures ∙ ap (λ m. count_free m ms) c.as_slice.ensures.value) ∙ c.if-count-ne1.false in
    let none : first (is_free marks) ms ≡ None = sym (ap (λ m. first (is_free m) ms) c.as_slice-2.ensures.value) ∙ c.in-None.ensures in
    some_passes (is_free marks) ms count none

pub returns-clause-place : goal.returns-clause-place
returns-clause-place c = λ l.
    let ms = c.as_slice-modules.result.now in
    top_at c.args.names.now c.count.ensures.distinct c.args.netlist.now c.requires.netlist l ms c.as_slice-modules.ensures c.in_ok-marks.marks.items c.in_ok-marks.ensures c.in-Some.place
    (c.in-Some.ensures ∙ ap (λ m. first (is_free m) ms) c.as_slice-2.ensures.value)

pub returns-clause-ok : goal.returns-clause-ok
returns-clause-ok c =
    let ms = c.as_slice-modules.result.now in
    let counted = c.count_free-count.ensures ∙ ap (λ marks. count_free marks ms) c.as_slice.ensures.value ∙ tops_counted c.in_ok-marks.marks.items ms c.in_ok-marks.ensures in
    λ l. one_top c.args.names.now c.count.ensures.distinct c.args.netlist.now c.requires.netlist l ms c.as_slice-modules.ensures c.count_free-count.result counted c.if-count-ne1.false
