use Rattle.std.proofs.Common.{sym, ap, ◌∙◌, subst, option_map}
use Rattle.lp_targets.specs.Structures.{structure_of}
use Rattle.lp_targets.specs.Reports.{report_of, IsStop}
use Rattle.lp_connections.specs.Limits.{AreSmall}
use Rattle.lp_connections.specs.Reports.{connections_report}
use Rattle.lp_connections.proofs.Texts.{answered}
use Rattle.lp_connections.proofs.check.check_connections.Goals as goal

pub fault_in-requires : goal.fault_in-requires
fault_in-requires c = subst AreSmall (sym c.as_slice-modules.ensures) c.requires.small

pub returns-in-Some-clause-err : goal.returns-in-Some-clause-err
returns-in-Some-clause-err c = λ targets.
    let texts = c.args.names.now in
    let n = c.args.netlist.now in
    let l = c.args.library.now in
    let e = answered texts c.count.ensures.distinct n l c.requires.named c.as_slice-modules.result.now c.as_slice-cells.result.now c.as_slice-modules.ensures c.as_slice-cells.ensures c.args.rows.now targets c.in_ok-found.found c.in_ok-found.ensures in
    subst (IsStop texts (connections_report (structure_of texts n l))) (sym c.from.ensures) (e ∙ ap (option_map (report_of texts)) c.in-Some.is)

pub returns-in-None-clause-ok : goal.returns-in-None-clause-ok
returns-in-None-clause-ok c = λ targets.
    let texts = c.args.names.now in
    answered texts c.count.ensures.distinct c.args.netlist.now c.args.library.now c.requires.named c.as_slice-modules.result.now c.as_slice-cells.result.now c.as_slice-modules.ensures c.as_slice-cells.ensures c.args.rows.now targets c.in_ok-found.found c.in_ok-found.ensures
    ∙ ap (option_map (report_of texts)) c.in-None.is
