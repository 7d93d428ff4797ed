use Rattle.std.proofs.Common.{sym, ap, ◌∙◌, subst}
use Rattle.std.specs.Option.{option_map}
use Rattle.lp_targets.specs.Structures.{structure_of}
use Rattle.lp_targets.specs.Reports.{report_of, names_report, IsStop}
use Rattle.lp_targets.proofs.Closed.{counted, closed, cells_within}
use Rattle.lp_targets.proofs.Texts.{said, targets}
use Rattle.lp_targets.proofs.resolve.targets_of.Goals as goal

pub returns-in-Some-clause-err : goal.returns-in-Some-clause-err
returns-in-Some-clause-err c =
    let texts = c.args.names.now in
    let n = c.args.netlist.now in
    let l = c.args.library.now in
    let e = said texts c.count.ensures.distinct n l c.requires c.in_ok-index.index.modules c.in_ok-index.index.cells c.as_slice-modules.result.now c.as_slice.result.now c.as_slice-modules.ensures c.as_slice.ensures c.in_ok-index.ensures.modules c.in_ok-index.ensures.cells c.fault_of.result c.fault_of.ensures in
    subst (IsStop texts (names_report (structure_of texts n l))) (sym c.from.ensures) (e ∙ ap (option_map (report_of texts)) c.in-Some.is)

pub returns-clause-targets : goal.returns-clause-targets
returns-clause-targets c =
    targets c.args.names.now c.count.ensures.distinct c.args.netlist.now c.args.library.now c.requires c.in_ok-index.index.modules c.in_ok-index.index.cells c.as_slice-modules.result.now c.as_slice.result.now c.as_slice-modules.ensures c.as_slice.ensures c.in_ok-index.ensures.modules c.in_ok-index.ensures.cells
    c.fault_of.result c.fault_of.ensures c.in_default.is c.in_ok-rows.rows c.in_ok-rows.ensures

pub returns-clause-count : goal.returns-clause-count
returns-clause-count c = counted c.in_ok-index.index.modules c.in_ok-index.index.cells c.as_slice-modules.result.now c.args.netlist.now.modules c.as_slice-modules.ensures c.in_ok-rows.rows c.in_ok-rows.ensures

pub returns-clause-cells : goal.returns-clause-cells
returns-clause-cells c = cells_within c.in_ok-index.index.modules c.in_ok-index.index.cells c.as_slice-modules.result.now c.as_slice.result.now c.args.library.now.cells c.as_slice.ensures c.in_ok-index.ensures.cells c.in_ok-rows.rows c.in_ok-rows.ensures

pub returns-clause-closed : goal.returns-clause-closed
returns-clause-closed c = closed c.in_ok-index.index.modules c.in_ok-index.index.cells c.as_slice-modules.result.now c.in_ok-index.ensures.modules c.in_ok-rows.rows c.in_ok-rows.ensures

pub returns-clause-ok : goal.returns-clause-ok
returns-clause-ok c =
    let texts = c.args.names.now in
    said texts c.count.ensures.distinct c.args.netlist.now c.args.library.now c.requires c.in_ok-index.index.modules c.in_ok-index.index.cells c.as_slice-modules.result.now c.as_slice.result.now c.as_slice-modules.ensures c.as_slice.ensures c.in_ok-index.ensures.modules c.in_ok-index.ensures.cells c.fault_of.result c.fault_of.ensures
    ∙ ap (option_map (report_of texts)) c.in_default.is
