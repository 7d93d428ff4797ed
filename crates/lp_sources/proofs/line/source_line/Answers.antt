use Rattle.std.proofs.Common.{◌∙◌}
use Rattle.lp_sources.proofs.Ready.{few, ready}
use Rattle.lp_sources.proofs.line.source_line.Goals as goal

pub templates_of-requires : goal.templates_of-requires
templates_of-requires c = few c.args.names.now c.args.netlist.now c.args.library.now c.args.hierarchy.now c.requires.judged

pub source_fault-requires : goal.source_fault-requires
source_fault-requires c = few c.args.names.now c.args.netlist.now c.args.library.now c.args.hierarchy.now c.requires.judged

pub returns : goal.returns
returns c =
    c.source_fault.ensures
    (ready c.args.names.now c.args.netlist.now c.args.library.now c.args.hierarchy.now c.requires.judged c.count-count.ensures.distinct
    c.as_slice-rows.result.now c.as_slice-rows.ensures c.as_slice.result.now c.as_slice.ensures.value
    c.deref.result.now (c.deref.ensures.value ∙ c.in_ok-templates.ensures))
