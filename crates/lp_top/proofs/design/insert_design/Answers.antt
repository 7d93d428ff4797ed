use Rattle.lp_accept.specs.Inputs.{inputs_of}
use Rattle.lp_accept.specs.Judged.{cells_of, source_of}
use Rattle.lp_top.proofs.DesignLaws.{promise, promise-headline, refused-by, gives-fault, gives-texts}
use Rattle.lp_top.proofs.design.insert_design.Goals as goal

pub write-requires-clause-cells : goal.write-requires-clause-cells
write-requires-clause-cells c = c.in-Ok.ensures.cells_below

pub write-requires-clause-source : goal.write-requires-clause-source
write-requires-clause-source c = c.in-Ok.ensures.source_below

pub write-requires-clause-few_names : goal.write-requires-clause-few_names
write-requires-clause-few_names c = c.in-Ok.ensures.few_names

pub write-requires-clause-few_cells : goal.write-requires-clause-few_cells
write-requires-clause-few_cells c = c.in-Ok.ensures.few_cells

pub write-requires-clause-power : goal.write-requires-clause-power
write-requires-clause-power c = c.in-Ok.ensures.power_visible

pub write-requires-clause-ground : goal.write-requires-clause-ground
write-requires-clause-ground c = c.in-Ok.ensures.gnd_visible

pub returns-in-Ok-write-clause-written : goal.returns-in-Ok-write-clause-written
returns-in-Ok-write-clause-written c =
    promise (inputs_of c.args.libs.now c.args.netlist.now c.args.upf.now) c.in-Ok.accepted c.in-Ok.ensures c.args.margin
    c.fits_are_flat.ensures c.powered_is_well_formed.ensures c.reads_back.ensures.back c.reads_back.ensures.alone c.flat_netlist_is_supplied.ensures
    c.in-Ok-write.written.netlist (c.in-Ok-write.ensures.laid c.args.margin) (c.in-Ok-write.ensures.table c.args.margin)
    c.in-Ok-write.written.report c.in-Ok-write.ensures.report

pub returns-in-Ok-write-clause-headline : goal.returns-in-Ok-write-clause-headline
returns-in-Ok-write-clause-headline c =
    promise-headline (inputs_of c.args.libs.now c.args.netlist.now c.args.upf.now) c.in-Ok.accepted c.in-Ok.ensures c.args.margin
    c.fits_are_flat.ensures c.powered_is_well_formed.ensures c.reads_back.ensures.back c.reads_back.ensures.alone c.flat_netlist_is_supplied.ensures
    c.in-Ok-write.written.netlist (c.in-Ok-write.ensures.laid c.args.margin) (c.in-Ok-write.ensures.table c.args.margin)
    c.flat_runs_alike.ensures

pub returns-in-Ok-write-clause-exact : goal.returns-in-Ok-write-clause-exact
returns-in-Ok-write-clause-exact c line fault =
    absurd (c.no_fault.ensures (inputs_of c.args.libs.now c.args.netlist.now c.args.upf.now) (cells_of c.in-Ok.accepted) (source_of c.in-Ok.accepted) c.in-Ok.accepted.intent line c.in-Ok.ensures.accepts fault)

pub returns-in-Err-clause-refused : goal.returns-in-Err-clause-refused
returns-in-Err-clause-refused c = refused-by (inputs_of c.args.libs.now c.args.netlist.now c.args.upf.now) c.in-Err.stop c.refused_by.result c.refused_by.ensures c.in-Err.ensures

pub returns-in-Err-clause-exact : goal.returns-in-Err-clause-exact
returns-in-Err-clause-exact c =
    let inputs = inputs_of c.args.libs.now c.args.netlist.now c.args.upf.now in
    gives-fault inputs (c.one_fault.ensures inputs) c.in-Err.stop c.refused_by.result c.refused_by.ensures c.in-Err.ensures

pub returns-in-Err-clause-complete : goal.returns-in-Err-clause-complete
returns-in-Err-clause-complete c =
    let inputs = inputs_of c.args.libs.now c.args.netlist.now c.args.upf.now in
    gives-texts inputs (c.no_fault.ensures inputs) c.in-Err.stop c.refused_by.result c.refused_by.ensures c.in-Err.ensures
